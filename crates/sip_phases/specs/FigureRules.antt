-- The rules that a figure makes: the machine that a contract sees, which is the same (`laws.rt` of sip_states).
use Rattle.std.specs.Prelude.{◌≡◌, ◌≢◌, ◌≤◌, ◌⊎◌, ℕ, Option, Some, None, List, [], ◌∷◌, ◌++◌, All}
use Rattle.sip_standard.specs.declared.kind.Kind.{Kind}
use Rattle.sip_standard.specs.Times.{Times}
use Rattle.sip_times.specs.Limits.{IsWithin}
use Rattle.sip_standard.specs.MachineEvent.{MachineEvent}
use Rattle.sip_phases.specs.Deadlines.{unexpired, must_deadlines, unless_owed}
use Rattle.sip_ledger.specs.Debts.{earliest}
use Rattle.sip_phases.specs.Rules.{MachineRules}
use Rattle.sip_standard.specs.Figure.{Change, drops, Figure, Owing, quiet, Steps}

-- where a row leads: to a phase, with a change of what is owed
abbrev pub After : Type 0 → Type 0
After X = X × Change

-- the moment at which a window closes, and no moment where it does not
abbrev pub closes_of : Option (ℕ × Option ℕ) → List ℕ
closes_of None = []
closes_of (Some (from, None)) = []
closes_of (Some (from, Some to)) = to ∷ []

-- the moments up to which the timers of a phase let it last: where its window closes, and what must be sent by then
abbrev pub closes_at : {X : Type 0} → Figure X → Times → X → List ℕ
closes_at f p x = closes_of (f.window p x) ++ f.sends_by p x

-- when a state may end: as its phase, but not while something must be sent
abbrev pub window_of : {X : Type 0} → Figure X → Times → Owing X → Option (ℕ × Option ℕ)
window_of f p x = unless_owed x.owes (f.window p x.phase)

-- how long a state may be waited in: up to the first of its timers and of the deadlines of what must be sent
abbrev pub until_of : {X : Type 0} → Figure X → Times → Owing X → Option ℕ
until_of f p x = earliest (closes_at f p x.phase ++ must_deadlines x.owes)

-- the state takes the event: it has lasted until the event, and has a step without what has expired
abbrev pub TakeOf : {X : Type 0} → Figure X → Times → Owing X → MachineEvent → Owing X → Type 0
TakeOf f p x e y =
    IsWithin e.moment (until_of f p x) × Steps f p e.action e (record { phase = x.phase; owes = unexpired e.moment x.owes }) y

-- the rules of the figure: its states owe something beside their phase
abbrev pub rules_of : {X : Type 0} → Figure X → Times → MachineRules (Owing X)
rules_of f p = record { first = quiet f.idle; ended = quiet f.ended; Take = TakeOf f p; window = window_of f p; until = until_of f p }

-- what a figure keeps: the idle and the ended phase have no timer; a row leads to a phase whose timers are not past; a send that drops the debts, or
-- may leave the state as it is, leads to another phase where it has a row; and a send that may leave the state as it is pays nothing
pub record IsFigure {X : Type 0} (f : Figure X) : Type 0 where
  pub idle_has_no_end : (p : Times) → f.window p f.idle ≡ None
  pub idle_stays : (p : Times) → closes_at f p f.idle ≡ []
  pub ended_has_no_end : (p : Times) → f.window p f.ended ≡ None
  pub ended_stays : (p : Times) → closes_at f p f.ended ≡ []
  -- a row leads to a phase whose timers are not past; the last two are of sends that drop the debts or may leave the state as it is
  -- x is the phase, k the kind of the message e, and y where its row leads
  pub received_waits : (p : Times) (x : X) (k : Kind) (e : MachineEvent) (y : After X) → All (λ m. e.moment ≤ m) (closes_at f p x) →
      f.Receives p x k e y → All (λ m. e.moment ≤ m) (closes_at f p y.0)
  pub sent_waits : (p : Times) (x : X) (k : Kind) (e : MachineEvent) (y : After X) → All (λ m. e.moment ≤ m) (closes_at f p x) →
      f.Sends p x k e y → All (λ m. e.moment ≤ m) (closes_at f p y.0)
  pub sent_leaves : (p : Times) (x : X) (k : Kind) (e : MachineEvent) (y : After X) → f.Sends p x k e y → (y.1 ≡ drops) ⊎ f.Stays x k → y.0 ≢ x
  pub stays_unpaid : (x : X) (k : Kind) (e : MachineEvent) (message : List ℕ) → f.Stays x k → ¬ (f.Satisfies x k e message)
