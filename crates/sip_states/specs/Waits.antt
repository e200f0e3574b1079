-- The waits between two events, and what an event gives. What sets of states promise speaks of these two.
use Rattle.std.specs.Prelude.{◌≤◌, ◌↔◌, ◌⊎◌, ℕ, Option}
use Rattle.sip_machine.specs.Limits.{IsWithin}
use Rattle.sip_standard.specs.MachineEvent.{MachineEvent}
use Rattle.sip_machine.specs.Rules.{MachineRules, Waits, Hide}

-- y is a state of S in which one can stay from h to m
pub record StaysFrom {X : Type 0} (r : MachineRules X) (S : X → Type 0) (h m : ℕ) (y : X) : Type 0 where
  pub among : S y
  pub reached : h ≤ m
  pub waits : Waits r y m

-- y is the ended state, to which some state of S can end at a moment from h to m; it stays for ever
pub record EndsFrom {X : Type 0} (r : MachineRules X) (S : X → Type 0) (h m : ℕ) (y : X) : Type 0 where
  pub start : X
  pub among : S start
  pub at : ℕ
  pub after : h ≤ at
  pub before : at ≤ m
  pub hides : Hide r start at y

-- one can stand in y at m after standing in a state of S at h, with no event between: one stays in that state, or it ends
abbrev pub Wait : {X : Type 0} → MachineRules X → (X → Type 0) → ℕ → ℕ → X → Type 0
Wait r S h m y = StaysFrom r S h m y ⊎ EndsFrom r S h m y

-- y is a state that the event gives from one of the states of S
pub record RunGives {X : Type 0} (r : MachineRules X) (S : X → Type 0) (e : MachineEvent) (y : X) : Type 0 where
  pub before : X
  pub among : S before
  pub takes : r.Take before e y

-- a wait from S at h can last until exactly the moments that are within the limit
abbrev pub IsAgenda : {X : Type 0} → MachineRules X → (X → Type 0) → ℕ → Option ℕ → Type 0
IsAgenda {X} r S h limit = (m : ℕ) → h ≤ m → ((y : X) × Wait r S h m y) ↔ IsWithin m limit
