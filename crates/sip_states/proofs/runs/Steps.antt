-- Runs of a machine by its rules, as lists of steps. Only lemmas speak of them: what sets promise speaks of waits, and runs are told by Stands.
use Rattle.std.specs.Prelude.{◌≡◌, ◌≤◌, ◌++◌, ◌∷◌, [], ℕ, List, map}
use Rattle.sip_standard.specs.MachineEvent.{MachineEvent}
use Rattle.sip_machine.specs.Rules.{MachineRules, Waits, Hide}

-- a step of a run: a hidden end at a moment, or an event
pub data Step : Type 0 where
  Hides : ℕ → Step
  Takes : MachineEvent → Step

-- the moment of a step
abbrev pub moment_of_step : Step → ℕ
moment_of_step (Hides h) = h
moment_of_step (Takes e) = e.moment

-- the step leads from x to y
abbrev pub Does : {X : Type 0} → MachineRules X → X → Step → X → Type 0
Does r x (Hides h) y = Hide r x h y
Does r x (Takes e) y = Waits r x e.moment × r.Take x e y

-- from x at h the steps lead to y at m, the moment of the last one; moments do not fall, and each state waits until the step that leaves it
abbrev pub Goes : {X : Type 0} → MachineRules X → X → ℕ → List Step → X → ℕ → Type 0
Goes r x h [] y m = (y ≡ x) × (m ≡ h)
Goes {X} r x h (step ∷ steps) y m = (z : X) × (h ≤ moment_of_step step) × Does r x step z × Goes r z (moment_of_step step) steps y m

-- from x at h the steps lead to y, which waits until m
pub record Reaches {X : Type 0} (r : MachineRules X) (x : X) (h : ℕ) (steps : List Step) (y : X) (m : ℕ) : Type 0 where
  pub last : ℕ
  pub goes : Goes r x h steps y last
  pub reached : last ≤ m
  pub waits : Waits r y m

-- the events that the steps take, in order
abbrev pub taken : List Step → List MachineEvent
taken [] = []
taken (Hides h ∷ steps) = taken steps
taken (Takes e ∷ steps) = e ∷ taken steps

-- one can stand in y at m after starting in a state of S at h and taking hidden steps alone
pub record HidesFrom {X : Type 0} (r : MachineRules X) (S : X → Type 0) (h m : ℕ) (y : X) : Type 0 where
  pub start : X
  pub begins : S start
  pub ends : List ℕ
  pub stands : Reaches r start h (map Hides ends) y m

-- a run takes just these events, in order, from the first state at moment 0, and stands in y at m
pub record RuledRun {X : Type 0} (r : MachineRules X) (events : List MachineEvent) (m : ℕ) (y : X) : Type 0 where
  pub steps : List Step
  pub stands : Reaches r r.first 0 steps y m
  pub takes : taken steps ≡ events

-- y is the last state of a run over these events and then e, whose last step is that of e
pub record AfterRun {X : Type 0} (r : MachineRules X) (events : List MachineEvent) (e : MachineEvent) (y : X) : Type 0 where
  pub steps : List Step
  pub goes : Goes r r.first 0 (steps ++ Takes e ∷ []) y e.moment
  pub takes : taken steps ≡ events
