-- A run, cut at one of its events: what leads to it, its step, and what leads on from there. Then what a run keeps.
-- In each lemma a run goes from the state x at the moment h over events to the state y at the moment m; k is a moment between, a the state that takes the
-- first event, and b the state after it.
-- f is the figure of the machine, es are the events of a run, and z is the state to which one event more leads.
use Rattle.std.proofs.Common.{◌≡◌, ◌≤◌, ◌||◌, ℕ, List, [], ◌∷◌, ◌++◌, filter, subst, sym, append_assoc}
use Rattle.std.specs.Prelude.{nat_le}
use Rattle.std.proofs.lemmas.List.{append-nil}
use Rattle.sip_standard.specs.declared.action.Action.{Action}
use Rattle.sip_standard.specs.Debts.{Owed}
use Rattle.sip_standard.specs.Times.{Times}
use Rattle.sip_standard.specs.MachineEvent.{MachineEvent}
use Rattle.sip_standard.specs.Figure.{Figure, Owing, quiet, Steps, Takes, Lasts, MayEnd}
use Rattle.sip_standard.specs.Stands.{Stands, begins, waits, ends, takes}

-- from the state x at h, waits and ends lead to a state at a moment, without an event
pub data Rests {X : Type 0} (f : Figure X) (p : Times) (x : Owing X) (h : ℕ) : ℕ → Owing X → Type 0 where
  -- nothing has happened yet; or the state y waits from k until m; or the state y ends at m
  rests : Rests f p x h h x
  rest_waits : (k m : ℕ) (y : Owing X) → Rests f p x h k y → k ≤ m → Lasts f p y m → Rests f p x h m y
  rest_ends : (m : ℕ) (y : Owing X) → Rests f p x h m y → MayEnd f p y m → Rests f p x h m (quiet f.ended)

-- from the state x at h, a run over exactly these events leads to y at m
abbrev pub Runs : {X : Type 0} → Figure X → Times → Owing X → ℕ → List MachineEvent → ℕ → Owing X → Type 0
Runs f p x h [] m y = Rests f p x h m y
Runs {X} f p x h (e ∷ es) m y = (a : Owing X) × (b : Owing X) × Rests f p x h e.moment a × Takes f p a e b × Runs f p b e.moment es m y

-- P, a fact of the events so far, the moment and the state, is kept by waits, ends and events
pub record IsKept {X : Type 0} (f : Figure X) (p : Times) (P : List MachineEvent → ℕ → Owing X → Type 0) : Type 0 where
  -- P holds on while a state lasts until m; after an end of the state x at h; and after the event e, which leads from x to y
  pub as_it_waits : (es : List MachineEvent) (h m : ℕ) (x : Owing X) → P es h x → h ≤ m → Lasts f p x m → P es m x
  pub as_it_ends : (es : List MachineEvent) (h : ℕ) (x : Owing X) → P es h x → MayEnd f p x h → P es h (quiet f.ended)
  pub as_it_takes : (es : List MachineEvent) (e : MachineEvent) (x y : Owing X) → P es e.moment x → Takes f p x e y → P (es ++ e ∷ []) e.moment y

-- the debts that are still owed when an event comes
abbrev pub left_at : {X : Type 0} → MachineEvent → Owing X → List Owed
left_at e x = filter (λ owed. owed.must || nat_le e.moment owed.deadline) x.owes

-- an event with this action leads by the step of that action, from the state without the debts that are past
pub step-of : {X : Type 0} (f : Figure X) (p : Times) (a : Action) (e : MachineEvent) (x y : Owing X) → e.action ≡ a → Takes f p x e y → Steps f p a e (record { phase = x.phase; owes = left_at e x }) y
step-of f p a e x y is take = subst (λ b. Steps f p b e (record { phase = x.phase; owes = left_at e x }) y) is take

-- What follows is of the runs of a machine: its figure f with the times p.
module _ {X : Type 0} (f : Figure X) (p : Times) where
  -- a run that can wait on leads to the same state at the later moment
  run-waits : (x : Owing X) (h : ℕ) (es : List MachineEvent) (k m : ℕ) (y : Owing X) → Runs f p x h es k y → k ≤ m → Lasts f p y m → Runs f p x h es m y
  run-waits x h [] k m y run low lasts = rest_waits k m y run low lasts
  run-waits x h (e ∷ es) k m y (a, b, rest, take, run) low lasts = (a, b, rest, take, run-waits b e.moment es k m y run low lasts)

  -- a run to a state that may end leads to the ended state
  run-ends : (x : Owing X) (h : ℕ) (es : List MachineEvent) (m : ℕ) (y : Owing X) → Runs f p x h es m y → MayEnd f p y m → Runs f p x h es m (quiet f.ended)
  run-ends x h [] m y run may = rest_ends m y run may
  run-ends x h (e ∷ es) m y (a, b, rest, take, run) may = (a, b, rest, take, run-ends b e.moment es m y run may)

  -- a run to a state that takes an event leads over this event too
  run-takes : (x : Owing X) (h : ℕ) (es : List MachineEvent) (e : MachineEvent) (y z : Owing X) → Runs f p x h es e.moment y → Takes f p y e z → Runs f p x h (es ++ e ∷ []) e.moment z
  run-takes x h [] e y z run take = (y, z, run, take, rests)
  run-takes x h (g ∷ es) e y z (a, b, rest, taken, run) take = (a, b, rest, taken, run-takes b g.moment es e y z run take)

  -- where a run stands, a run leads from the idle state at moment 0
  -- what the run does last the run from idle does last too: it begins, waits, ends, or takes an event
  pub stands-run : (es : List MachineEvent) (m : ℕ) (y : Owing X) → Stands f p es m y → Runs f p (quiet f.idle) 0 es m y
  stands-run _ _ _ begins = rests
  stands-run _ _ _ (waits es h m x stands low lasts) = run-waits (quiet f.idle) 0 es h m x (stands-run es h x stands) low lasts
  stands-run _ _ _ (ends es h x stands may) = run-ends (quiet f.idle) 0 es h x (stands-run es h x stands) may
  stands-run _ _ _ (takes es e x y stands take) = run-takes (quiet f.idle) 0 es e x y (stands-run es e.moment x stands) take

  -- a run is cut at an event: the states before and after it, and the runs to and from them
  pub record Cut (x : Owing X) (h : ℕ) (before : List MachineEvent) (e : MachineEvent) (after : List MachineEvent) (m : ℕ) (y : Owing X) : Type 0 where
    pub from : Owing X
    pub to : Owing X
    pub leads : Runs f p x h before e.moment from
    pub step : Takes f p from e to
    pub goes : Runs f p to e.moment after m y

  -- a run over events can be cut at each of them
  -- the event is the first, or comes after the first, g, and then the run from there is cut
  pub cut : (x : Owing X) (h : ℕ) (before : List MachineEvent) (e : MachineEvent) (after : List MachineEvent) (m : ℕ) (y : Owing X) →
      Runs f p x h (before ++ e ∷ after) m y → Cut x h before e after m y
  cut x h [] e after m y (a, b, rest, take, run) = record { from = a; to = b; leads = rest; step = take; goes = run }
  cut x h (g ∷ before) e after m y (a, b, rest, take, run) =
      let later = cut b g.moment before e after m y run in
      record { from = later.from; to = later.to; leads = (a, b, rest, take, later.leads); step = later.step; goes = later.goes }

  -- What follows is of a fact P that a run keeps: it speaks of the events so far, the moment, and the state.
  module _ (P : List MachineEvent → ℕ → Owing X → Type 0) (kept : IsKept f p P) where
    -- a run keeps the fact while it waits and ends
    -- nothing has happened yet, or a wait comes last, or an end
    rest-keeps : (es : List MachineEvent) (x : Owing X) (h m : ℕ) (y : Owing X) → P es h x → Rests f p x h m y → P es m y
    rest-keeps es x h _ _ holds rests = holds
    rest-keeps es x h _ _ holds (rest_waits k m y rest low lasts) = kept.as_it_waits es k m y (rest-keeps es x h k y holds rest) low lasts
    rest-keeps es x h _ _ holds (rest_ends m y rest may) = kept.as_it_ends es m y (rest-keeps es x h m y holds rest) may

    -- what holds of events and a state holds of these events with those of a run from there, and of its last state
    run-keeps-after : (es more : List MachineEvent) (x : Owing X) (h m : ℕ) (y : Owing X) → P es h x → Runs f p x h more m y → P (es ++ more) m y
    run-keeps-after es [] x h m y holds run = subst (λ fs. P fs m y) (sym (append-nil es)) (rest-keeps es x h m y holds run)
    run-keeps-after es (e ∷ more) x h m y holds (a, b, rest, take, run) =
        subst (λ fs. P fs m y) (append_assoc es (e ∷ []) more)
        (run-keeps-after (es ++ e ∷ []) more b e.moment m y (kept.as_it_takes es e a b (rest-keeps es x h e.moment a holds rest) take) run)

    -- what holds of its first state and no event holds of its last state and its events
    pub run-keeps : (es : List MachineEvent) (x : Owing X) (h m : ℕ) (y : Owing X) → P [] h x → Runs f p x h es m y → P es m y
    run-keeps es x h m y holds run = run-keeps-after [] es x h m y holds run
