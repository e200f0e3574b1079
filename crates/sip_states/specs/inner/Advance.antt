-- What it means that the sets at some indices wait.
use Rattle.std.specs.Prelude.{◌≡◌, ◌⊎◌, ℕ, List, Some, Contains, length, slice_get}
use Rattle.sip_states.specs.declared.any_set.AnySet.{AnySet}
use Rattle.sip_states.specs.AnySet.{SetWaits}

-- the sets at these indices have waited until the moment, and the others are as before
pub record AdvancesAt (moment : ℕ) (indices : List ℕ) (old new : List AnySet) : Type 0 where
  pub long : length new ≡ length old
  pub each : (n : ℕ) (before after : AnySet) → slice_get old n ≡ Some before → slice_get new n ≡ Some after →
      (Contains indices n × SetWaits moment before after) ⊎ (¬ Contains indices n × (after ≡ before))

-- the sets at some of these indices have waited until the moment, and the others are as before
abbrev pub AdvancesSomeAt : ℕ → List ℕ → List AnySet → List AnySet → Type 0
AdvancesSomeAt moment indices old new =
    (some : List ℕ) × ((n : ℕ) → Contains some n → Contains indices n) × AdvancesAt moment some old new
