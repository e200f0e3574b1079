-- What runs of the servers send.
-- In cases of `Emits` a message that is sent has a row (`row`, `is_row`, `to`), or pays a debt (`left`, `pays`), or changes nothing (`stays`, `same`): only
-- the INVITE server of RFC 3261 has such messages (Stays). In cases of `Steps` a message that is received has a row, or has none and changes nothing (`none`,
-- `same`); a restart leaves idle as it is (`idle`) and ends any other phase (`other`).
use Rattle.std.proofs.Common.{◌≡◌, ◌⊎◌, inl, inr, ℕ, suc, Bool, true, false, None, List, [], ◌∷◌, ◌++◌, refl, subst, arith}
use Rattle.std.specs.List.{Any}
use Rattle.sip_standard.specs.declared.action.Action.{Action}
use Rattle.sip_standard.specs.declared.role.Role.TheVariants.{Server}
use Rattle.sip_standard.specs.declared.rules.Rules.{Rules}
use Rattle.sip_standard.specs.declared.rules.Rules.TheVariants.{R3261, R6026}
use Rattle.sip_standard.specs.declared.action.Action.TheVariants.{Sent, Received, Failed, Mark, Restart}
use Rattle.sip_standard.specs.declared.kind.Method.{Method}
use Rattle.sip_standard.specs.declared.kind.Kind.{Kind}
use Rattle.sip_standard.specs.declared.kind.Kind.TheVariants.{Request, Response}
use Rattle.sip_standard.specs.Times.{Times}
use Rattle.sip_standard.specs.MachineEvent.{MachineEvent}
use Rattle.sip_standard.specs.Debts.{Owed}
use Rattle.sip_machine.specs.Deadlines.{unexpired}
use Rattle.sip_standard.specs.Figure.{Figure, Owing, quiet, Emits, Fails, Steps}
use Rattle.sip_machine.specs.FigureRules.{After as Row, rules_of as rules_of_figure}
use Rattle.sip_states.proofs.runs.Steps.{Step, Hides, Takes, Goes, taken, AfterRun}
use Rattle.sip_standard.specs.KeyMachine.{machine_of, transaction_of}
use Rattle.sip_states.specs.KeyRules.{OwingOf, key_rules}
use Rattle.sip_states.proofs.sets.Waiting.{IsOpenAt-none}
use Rattle.sip_states.proofs.runs.RunLemmas.{Goes-last}

-- the event is a request that was received
abbrev IsAsked : MachineEvent → Type 0
IsAsked e = (e.action ≡ Received) × ((method : Method) × (e.kind ≡ Request method))

-- in its idle phase a server has no window for an end, sends nothing, and leaves only for a request
record IsAsleep {X : Type 0} (f : Figure X) (p : Times) : Type 0 where
  pub no_end : f.window p f.idle ≡ None
  pub silent : (k : Kind) (e : MachineEvent) (y : Row X) → f.Sends p f.idle k e y → ⊥
  pub woken : (k : Kind) (e : MachineEvent) (y : Row X) → f.Receives p f.idle k e y → (method : Method) × (k ≡ Request method)
  pub unmoved : (k : Kind) → f.Stays f.idle k → ⊥

-- What follows is of a server that sends nothing from idle: its figure f with the times p.
module _ {X : Type 0} (f : Figure X) (p : Times) (asleep : IsAsleep f p) where
  -- nothing can be sent from the idle state
  emits_nothing : (e : MachineEvent) (y : Owing X) → Emits f p e (quiet f.idle) y → ⊥
  emits_nothing e y (inl (row, is_row, to)) = asleep.silent e.kind e row is_row
  emits_nothing e y (inr (inr (stays, same))) = asleep.unmoved e.kind stays
  emits_nothing e y (inr (inl (left, pays, to))) = none_owed pays.before pays.whole
    where
      -- the empty list has no first debt that could be paid
      none_owed : (before : List Owed) → [] ≡ before ++ pays.first ∷ pays.after → ⊥
      none_owed [] is = cc
      none_owed (owed ∷ before) is = cc

  -- the transport refuses nothing that an idle server sends, since the server sends nothing
  fails_nothing : (ends : Bool) (e : MachineEvent) (y : Owing X) → Fails ends f p e (quiet f.idle) y → ⊥
  fails_nothing true e y (some, to) = emits_nothing e some.0 some.1
  fails_nothing false e y h = emits_nothing e y h

  -- a step from the idle state stays in it, or takes a request that was received
  stays_or_asked : (e : MachineEvent) (y : Owing X) (a : Action) → e.action ≡ a → Steps f p a e (quiet f.idle) y → (y ≡ quiet f.idle) ⊎ IsAsked e
  -- a received message with a row is a request, and one without a row leaves idle as it is
  stays_or_asked e y Received is (inl (row, is_row, to)) = inr (is, asleep.woken e.kind e row is_row)
  stays_or_asked e y Received is (inr (none, same)) = inl same
  -- nothing is sent or refused from idle; a mark is no step, and a restart leaves idle as it is
  stays_or_asked e y Sent is h = absurd (emits_nothing e y h)
  stays_or_asked e y Failed is h = absurd (fails_nothing (f.ends_refused f.idle e.kind) e y h)
  stays_or_asked e y Mark is h = absurd h
  stays_or_asked e y Restart is (inl (idle, same)) = inl same
  stays_or_asked e y Restart is (inr (other, ends)) = absurd (other refl)

  -- steps from the idle state end in it, or one of them takes a request that was received
  -- the steps begin at the moment h, and lead to y at the moment m; z is the state after the first
  goes_stay_or_asked : (h : ℕ) (steps : List Step) (y : Owing X) (m : ℕ) → Goes (rules_of_figure f p) (quiet f.idle) h steps y m → (y ≡ quiet f.idle) ⊎ Any IsAsked (taken steps)
  goes_stay_or_asked h [] y m goes = inl goes.0
  goes_stay_or_asked h (Hides t ∷ steps) y m (z, low, hides, goes) = absurd (IsOpenAt-none t _ asleep.no_end hides.opened)
  goes_stay_or_asked h (Takes e ∷ steps) y m (z, low, does, goes) =
      by_step (stays_or_asked e z e.action refl does.1.1) (λ same. goes_stay_or_asked e.moment steps y m (subst (λ x. Goes (rules_of_figure f p) x e.moment steps y m) same goes))
    where
      -- what holds of the later steps holds with one step more
      later : (y ≡ quiet f.idle) ⊎ Any IsAsked (taken steps) → (y ≡ quiet f.idle) ⊎ Any IsAsked (e ∷ taken steps)
      later (inl same) = inl same
      later (inr (k, asked, within, is, holds)) = inr (suc k, asked, omega (arith, within), is, holds)

      -- the step leaves idle as it is, or takes a request
      by_step : (z ≡ quiet f.idle) ⊎ IsAsked e → (z ≡ quiet f.idle → (y ≡ quiet f.idle) ⊎ Any IsAsked (taken steps)) → (y ≡ quiet f.idle) ⊎ Any IsAsked (e ∷ taken steps)
      by_step (inl same) rest = later (rest same)
      by_step (inr asked) rest = inr (0, e, omega arith, refl, asked)

  -- an event that is sent comes after a request that was received
  sends_when_asked : (events : List MachineEvent) (e : MachineEvent) (y : Owing X) → AfterRun (rules_of_figure f p) events e y → e.action ≡ Sent → Any IsAsked events
  sends_when_asked events e y after sent =
      let r = rules_of_figure f p in
      let last = Goes-last r r.first 0 after.steps (Takes e) y after.goes in
      by_state last.before last.does.1.1 (goes_stay_or_asked 0 after.steps last.before last.at last.goes)
    where
      -- the first step leaves the server in idle, or it takes an event that asks
      by_state : (x : Owing X) → Steps f p e.action e (record { phase = x.phase; owes = unexpired e.moment x.owes }) y → (x ≡ quiet f.idle) ⊎ Any IsAsked (taken after.steps) → Any IsAsked events
      by_state x step (inl same) =
          absurd (emits_nothing e y (subst (λ a. Steps f p a e (quiet f.idle) y) sent (subst (λ z. Steps f p e.action e (record { phase = z.phase; owes = unexpired e.moment z.owes }) y) same step)))
      by_state x step (inr asked) = subst (Any IsAsked) after.takes asked

-- the figure of the server with these rules
abbrev server : (rules : Rules) (invite : Bool) → Figure (transaction_of (machine_of rules Server invite)).Phase
server rules invite = (transaction_of (machine_of rules Server invite)).figure

-- a message for which the idle phase of a server has a row is a request
-- a request is one; no server has a row in idle for a response
woken : (rules : Rules) (invite : Bool) (p : Times) (k : Kind) (e : MachineEvent) (y : Row (transaction_of (machine_of rules Server invite)).Phase) →
    (server rules invite).Receives p (server rules invite).idle k e y → (method : Method) × (k ≡ Request method)
woken rules invite p (Request method) e y h = (method, refl)
woken R6026 true p (Response code) e y h = absurd h
woken R6026 false p (Response code) e y h = absurd h
woken R3261 true p (Response code) e y h = absurd h.1
woken R3261 false p (Response code) e y h = absurd h

-- each of the servers is asleep in its idle phase
asleep : (rules : Rules) (invite : Bool) (p : Times) → IsAsleep (server rules invite) p
asleep R6026 true p = record { no_end = refl; silent = λ k e y h. h; woken = woken R6026 true p; unmoved = λ k stays. stays }
asleep R6026 false p = record { no_end = refl; silent = λ k e y h. h; woken = woken R6026 false p; unmoved = λ k stays. stays }
asleep R3261 true p = record { no_end = refl; silent = λ k e y h. h; woken = woken R3261 true p; unmoved = unmoved }
  where
    -- in idle the server by RFC 3261 sends nothing without a row
    unmoved : (k : Kind) → (server R3261 true).Stays (server R3261 true).idle k → ⊥
    unmoved (Request method) stays = absurd stays
    unmoved (Response code) (again, held, success) = cc
asleep R3261 false p = record { no_end = refl; silent = λ k e y h. h; woken = woken R3261 false p; unmoved = λ k stays. stays }

-- by each of the rules a server sends nothing before it has received a request
pub server_sends_when_asked : (p : Times) (rules : Rules) (invite : Bool) (events : List MachineEvent) (e : MachineEvent) (y : OwingOf (machine_of rules Server invite)) →
    AfterRun (key_rules p (machine_of rules Server invite)) events e y → e.action ≡ Sent → Any IsAsked events
server_sends_when_asked p rules invite = sends_when_asked (server rules invite) p (asleep rules invite p)
