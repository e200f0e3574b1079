-- Entries that come one after another in an input.
use Rattle.std.specs.Prelude.{◌≡◌, ◌+◌, ℕ, List, [], ◌∷◌}
use Rattle.sip_log.specs.Next.{gives, ComesNext}
use Rattle.sip_standard.specs.LogEntry.{Item}
use Rattle.sip_standard.specs.declared.format.Format.{Format}

-- after `count` entries with the last moment `last`, these entries come one after another in the rest of an input, and `left` is left
abbrev pub ComeInTurn : Format → ℕ → ℕ → List ℕ → List Item → List ℕ → Type 0
ComeInTurn format count last rest [] left = left ≡ rest
ComeInTurn format count last rest (e ∷ es) left =
    (behind : List ℕ) × ComesNext format count last rest (gives e behind) × ComeInTurn format (count + 1) e.moment behind es left
