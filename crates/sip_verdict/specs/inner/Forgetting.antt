-- Which transactions a survey forgets, by their sets and histories.
use Rattle.std.specs.Prelude.{◌≡◌, ◌≤◌, ◌↔◌, ℕ, Bool, false, Some, List, length, max, slice_get}
use Rattle.sip_standard.specs.Key.{KeyParts}
use Rattle.sip_standard.specs.Observation.{Observation}
use Rattle.sip_states.specs.AnySet.{IsQuietSet}
use Rattle.sip_states.specs.Tables.{Tabled}
use Rattle.sip_states.specs.declared.any_set.AnySet.{AnySet}
use Rattle.sip_verdict.specs.declared.histories.Histories.{Histories}
use Rattle.sip_verdict.specs.declared.histories.History.{History}
use Rattle.sip_verdict.specs.Forgetting.{IsOver}

-- where a transaction is over, its set is quiet
abbrev pub AreQuietIfOver : List (Observation KeyParts) → Tabled → Type 0
AreQuietIfOver es t = (n : ℕ) (key : KeyParts) (set : AnySet) → slice_get t.keys n ≡ Some key → slice_get t.sets n ≡ Some set → IsOver t.times es key → IsQuietSet set

-- the set is quiet, and no entry of its transaction has a number above `until`
abbrev pub IsPast : ℕ → ℕ → AnySet → History → Type 0
IsPast until restart set h = IsQuietSet set × (max h.last restart ≤ until)

-- each flag is false just where the set is quiet and the last entry of its transaction has a number up to `until`
abbrev pub TellsPast : ℕ → Tabled → Histories → List Bool → Type 0
TellsPast until t b flags = (n : ℕ) (is_kept : Bool) (set : AnySet) (h : History) → slice_get flags n ≡ Some is_kept → slice_get t.sets n ≡ Some set → slice_get b.each.items n ≡ Some h
    → (is_kept ≡ false) ↔ IsPast until b.restart set h

-- each transaction has a flag, and the flag is false just where its set is quiet and its last entry has a number up to `until`
pub record AreFlags (until : ℕ) (t : Tabled) (b : Histories) (flags : List Bool) : Type 0 where
  pub long : length flags ≡ length t.keys
  pub each : TellsPast until t b flags
