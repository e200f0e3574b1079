-- What a set of states holds.
use Rattle.std.specs.Prelude.{◌≢◌, ◌≤◌, ◌+◌, ◌⊎◌, ℕ, Option, List, All, AllPairs, Contains, length}
use Rattle.sip_machine.specs.Limits.{IsWithin}
use Rattle.sip_standard.specs.VerdictOf.{widest}

-- what a set of states holds: its machine, its moment, and its states
pub record Held (M S : Type 0) : Type 0 where
  pub machine : M
  pub moment : ℕ
  pub states : List S

-- what every set keeps: each state is in range, in the set once, and can wait at its moment; beside the ended one there are no more than are followed
pub record IsProper {M S : Type 0} (InRange : S → Type 0) (until : M → S → Option ℕ) (ended : M → S) (h : Held M S) : Type 0 where
  pub in_range : All InRange h.states
  pub distinct : AllPairs (λ x y. x ≢ y) h.states
  pub waiting : All (λ x. IsWithin h.moment (until h.machine x)) h.states
  pub few : (length h.states ≤ widest) ⊎ ((length h.states ≤ widest + 1) × Contains h.states (ended h.machine))
