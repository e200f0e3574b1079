-- How a log is written: its header and its entries.
use Rattle.std.specs.Prelude.{◌≡◌, ◌⊎◌, ◌++◌, ℕ, Bool, true, List, [], Option, Result, Ok, Err, ⊤}
use Rattle.std.specs.Io.KnownBytes.{Appends}
use Rattle.sip_standard.specs.Times.{Times}
use Rattle.sip_standard.specs.declared.rules.Rules.{Rules}
use Rattle.sip_standard.specs.declared.rules.Rules.TheVariants.{R3261, R6026}
use Rattle.sip_standard.specs.declared.format.Format.{Format}
use Rattle.sip_standard.specs.LogHeader.{lines_text, rules_text}
use Rattle.sip_log.specs.declared.write_error.WriteError.{WriteError}
use Rattle.sip_log.specs.declared.write_error.WriteError.TheVariants.{Limit, Io}

-- the line of rules as it is written, which is empty for those of RFC 6026
abbrev pub written_rules : Rules → List ℕ
written_rules R3261 = rules_text R3261
written_rules R6026 = []

-- a header as it is written in this format
abbrev pub header_text : Format → Times → List ℕ
header_text format p = lines_text format p ++ written_rules p.rules

-- where the call succeeds, this text was appended and no put failed; where it fails, a put has failed in it
abbrev pub Puts : {E : Type 0} → Option (List ℕ) → Option (List ℕ) → Bool → Bool → List ℕ → Result ⊤ E → Type 0
Puts old new before after text (Ok done) = Appends old new text × (after ≡ before)
Puts old new before after text (Err e) = after ≡ true

-- where the write succeeds, this text was appended and no put failed; `Io` says that a put failed in it
abbrev pub Writes : Option (List ℕ) → Option (List ℕ) → Bool → Bool → List ℕ → Result ⊤ WriteError → Type 0
Writes old new before after text (Ok done) = Appends old new text × (after ≡ before)
Writes old new before after text (Err Limit) = ⊥
Writes old new before after text (Err Io) = after ≡ true

-- what keeps the limits is written; what does not is refused, and the sink stays as it was
abbrev pub WritesWithin : {S : Type 0} → Type 0 → S → S → Type 0 → Result ⊤ WriteError → Type 0
WritesWithin Within old new Written r = (Within × Written) ⊎ (¬ Within × (r ≡ Err Limit) × (new ≡ old))
