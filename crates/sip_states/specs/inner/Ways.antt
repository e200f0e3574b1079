-- The ways from one set of states to the next, as the code takes them.
use Rattle.std.specs.Prelude.{◌≡◌, ◌≢◌, ◌≤◌, ◌+◌, ◌↔◌, ◌⊎◌, ℕ, Bool, true, Option, Some, None, List, All, AllPairs, Contains, map, length, nat_le}
use Rattle.std.specs.List.{Any}
use Rattle.sip_machine.specs.Limits.{IsWithin, IsOpenAt}
use Rattle.sip_machine.specs.Texts.{Texts}
use Rattle.sip_standard.specs.MachineEvent.{MachineEvent}
use Rattle.sip_machine.specs.Rules.{MachineRules, Waits}
use Rattle.sip_states.specs.Waits.{Wait, RunGives}

-- whether the moment is within the limit, where there is one
abbrev pub is_within : ℕ → Option ℕ → Bool
is_within m None = true
is_within m (Some last) = nat_le m last

-- a state with this window and this last moment can end at this moment, which is not before h
pub record IsEnd (window : Option (ℕ × Option ℕ)) (until : Option ℕ) (h at : ℕ) : Type 0 where
  pub after : h ≤ at
  pub opened : IsOpenAt at window
  pub waited : IsWithin at until

-- the first moment at which a state with this window and this last moment can end, or `None` where it cannot
abbrev pub IsFirstEnd : Option (ℕ × Option ℕ) → Option ℕ → ℕ → Option ℕ → Type 0
IsFirstEnd window until h None = (at : ℕ) → IsEnd window until h at → ⊥
IsFirstEnd window until h (Some first) = IsEnd window until h first × ((at : ℕ) → IsEnd window until h at → first ≤ at)

-- a state with this window and this last moment can end at a moment from h to m
pub record CanEnd (window : Option (ℕ × Option ℕ)) (until : Option ℕ) (h m : ℕ) : Type 0 where
  pub at : ℕ
  pub is : IsEnd window until h at
  pub before : at ≤ m

-- one of the states can end at a moment from h to m
abbrev pub SomeCanEnd : {S : Type 0} → (S → Option (ℕ × Option ℕ)) → (S → Option ℕ) → ℕ → ℕ → List S → Type 0
SomeCanEnd window until h m xs = Any (λ x. CanEnd (window x) (until x) h m) xs

-- from a state with this window and this last moment one can stay from h until m, or end by then
abbrev pub CanReach : Option (ℕ × Option ℕ) → Option ℕ → ℕ → ℕ → Type 0
CanReach window until h m = IsWithin m until ⊎ CanEnd window until h m

-- from one of the states one can stay from h until m, or end by then
abbrev pub SomeCanReach : {S : Type 0} → (S → Option (ℕ × Option ℕ)) → (S → Option ℕ) → ℕ → ℕ → List S → Type 0
SomeCanReach window until h m xs = Any (λ x. CanReach (window x) (until x) h m) xs

-- the moments from h on of which P holds are exactly those within the limit
abbrev pub IsLastOf : (ℕ → Type 0) → ℕ → Option ℕ → Type 0
IsLastOf P h limit = (m : ℕ) → h ≤ m → P m ↔ IsWithin m limit

-- by waiting from h to m the states xs become ys, each once: those that can wait until m, and the ended one where one of them can end
pub record Advances {S : Type 0} (InRange : S → Type 0) (window : S → Option (ℕ × Option ℕ)) (until : S → Option ℕ) (ended : S) (h m : ℕ) (xs ys : List S) : Type 0 where
  pub members : (x : S) → Contains ys x ↔ (IsWithin m (until x) × (Contains xs x ⊎ ((x ≡ ended) × SomeCanEnd window until h m xs)))
  pub distinct : AllPairs (λ x y. x ≢ y) ys
  pub in_range : All InRange ys
  pub grows : (length ys ≤ length xs) ⊎ ((length ys ≤ length xs + 1) × (Contains xs ended → ⊥) × Contains ys ended)

-- y is what the event gives from one of the states xs that can wait until its moment
abbrev pub GivesFrom : {X S : Type 0} → (Texts → S → X) → Texts → MachineRules X → List S → MachineEvent → X → Type 0
GivesFrom seen texts r xs e y = RunGives r (λ x. Contains (map (seen texts) xs) x × Waits r x e.moment) e y

-- y is what the event gives from where one can stand at its moment, after standing in one of the states xs at h
abbrev pub GivesAfter : {X S : Type 0} → (Texts → S → X) → Texts → MachineRules X → List S → ℕ → MachineEvent → X → Type 0
GivesAfter seen texts r xs h e y = RunGives r (Wait r (Contains (map (seen texts) xs)) h e.moment) e y
