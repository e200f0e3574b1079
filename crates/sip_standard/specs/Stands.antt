use Rattle.std.specs.Prelude.{◌≤◌, ℕ, List, [], ◌∷◌, ◌++◌}
use Rattle.sip_standard.specs.Times.{Times}
use Rattle.sip_standard.specs.MachineEvent.{MachineEvent}
use Rattle.sip_standard.specs.Figure.{Figure, Owing, quiet, Takes, Lasts, MayEnd}

-- a run over just these events, in order, stands in a state at a moment
pub data Stands {X : Type 0} (f : Figure X) (p : Times) : List MachineEvent → ℕ → Owing X → Type 0 where
  -- the run begins in idle at moment 0
  begins : Stands f p [] 0 (quiet f.idle)
  -- the run stands in the state x at the moment h, and waits there until the moment m, until which x lasts
  waits : (events : List MachineEvent) (h m : ℕ) (x : Owing X) → Stands f p events h x → h ≤ m → Lasts f p x m → Stands f p events m x
  -- the run ends where its state may end
  ends : (events : List MachineEvent) (h : ℕ) (x : Owing X) → Stands f p events h x → MayEnd f p x h → Stands f p events h (quiet f.ended)
  -- the run takes an event at the moment of the event
  takes : (events : List MachineEvent) (e : MachineEvent) (x y : Owing X) → Stands f p events e.moment x → Takes f p x e y → Stands f p (events ++ e ∷ []) e.moment y

-- y is a state to which e leads from where a run over these events stands at the moment of e
abbrev pub StandsAfter : {X : Type 0} → Figure X → Times → List MachineEvent → MachineEvent → Owing X → Type 0
StandsAfter {X} f p events e y = (x : Owing X) × Stands f p events e.moment x × Takes f p x e y
