-- Which sets a restart of the element may change.
use Rattle.std.specs.Prelude.{◌≡◌, ◌≢◌, ◌+◌, ℕ, List, Some, All, AllPairs, Contains, slice_get}
use Rattle.sip_states.specs.declared.any_set.AnySet.{AnySet}
use Rattle.sip_states.specs.AnySet.{IsQuietSet}
use Rattle.sip_states.specs.Tables.{Tabled, IsGiven}

-- each of these numbers was given, and none is in the list twice; every set with another number is quiet
pub record AreToRestart (t : Tabled) (numbers : List ℕ) : Type 0 where
  pub given : All (IsGiven t) numbers
  pub apart : AllPairs (λ a b. a ≢ b) numbers
  pub others : (place : ℕ) (set : AnySet) → slice_get t.sets place ≡ Some set → ¬ Contains numbers (place + 1) → IsQuietSet set
