-- A run told in the words of the standard is a run by the rules of its figure.
-- In the lemmas y is the state in which one stands at the moment m.
use Rattle.std.proofs.Common.{◌≡◌, ◌≤◌, ◌↔◌, inl, ℕ, Option, Some, None, IfSome, IsSomeAnd, Bool, true, false, List, [], ◌∷◌, ◌++◌, All, if◌then◌else◌, refl, sym, ◌∙◌, subst, arith}
use Rattle.std.specs.List.{list_any}
use Rattle.std.proofs.lemmas.List.{append_assoc, append-nil}
use Rattle.std.proofs.lemmas.List.Elements.{All-head, All-nil, All-cons, All-append}
use Rattle.sip_standard.specs.Times.{Times}
use Rattle.sip_machine.specs.Limits.{IsOpenAt}
use Rattle.sip_standard.specs.MachineEvent.{MachineEvent}
use Rattle.sip_machine.specs.Rules.{Waits, Hide}
use Rattle.sip_standard.specs.Figure.{Figure, Owing, quiet, Lasts, MayEnd}
use Rattle.sip_machine.specs.FigureRules.{IsFigure, closes_of, closes_at, rules_of}
use Rattle.sip_phases.proofs.debts.DebtLaws.{All-front, All-back}
use Rattle.sip_phases.proofs.debts.OwesLaws.{IsWithin-owed}
use Rattle.sip_phases.proofs.states.FigureLaws.{rules_lawful}
use Rattle.sip_standard.specs.Stands.{Stands, begins, waits, ends, takes, StandsAfter}
use Rattle.sip_standard.specs.KeyMachine.{MachineKind, transaction_of}
use Rattle.sip_states.proofs.keyed.KeySetLaws.{coded_holds}
use Rattle.sip_states.specs.Waits.{Wait, RunGives}
use Rattle.sip_states.proofs.runs.Steps.{Step, Hides, Takes, Goes, taken, RuledRun, AfterRun}
use Rattle.sip_states.proofs.sets.Waiting.{IsWithin-none, Wait-iff, Gives-iff}
use Rattle.sip_states.proofs.runs.RunLemmas.{taken-append, Goes-push, Run-wait, Run-wait_first, After-run}
use Rattle.sip_states.proofs.runs.FewerLemmas.{Run-fewer}

-- a moment is past no close of a window exactly where it is not past the one close that the window may have
closes-within : (h : ℕ) (window : Option (ℕ × Option ℕ)) → All (λ m. h ≤ m) (closes_of window) ↔ IfSome window (λ w. IfSome w.1 (λ close. h ≤ close))
closes-within h None = (λ _. tt, λ _. All-nil (λ m. h ≤ m))
closes-within h (Some (from, None)) = (λ _. tt, λ _. All-nil (λ m. h ≤ m))
closes-within h (Some (from, Some to)) = (λ all. All-head (λ m. h ≤ m) to [] all, λ low. All-cons (λ m. h ≤ m) to [] low (All-nil (λ m. h ≤ m)))

-- a window that has opened by h, and has not closed before h, is open at h
open-within : (h : ℕ) (window : Option (ℕ × Option ℕ)) → IsSomeAnd window (λ w. w.0 ≤ h) → IfSome window (λ w. IfSome w.1 (λ close. h ≤ close)) → IsOpenAt h window
open-within h None opening low = opening
open-within h (Some (from, None)) opening low = (opening, tt)
open-within h (Some (from, Some to)) opening low = (opening, low)

-- a window that is open has opened
within-open : (h : ℕ) (window : Option (ℕ × Option ℕ)) → IsOpenAt h window → IsSomeAnd window (λ w. w.0 ≤ h)
within-open h None opening = opening
within-open h (Some (from, to)) opening = opening.0

-- a window that counts only while nothing is owed is open at h only where nothing is owed
open-owed : (h : ℕ) (owed : Bool) (window : Option (ℕ × Option ℕ)) → IsOpenAt h (if owed then None else window) → (owed ≡ false) × IsOpenAt h window
open-owed h true window opening = absurd opening
open-owed h false window opening = (refl, opening)

-- What follows is of one machine, as the standard tells it (its figure f with the times p) and by the rules that sets follow.
module _ {X : Type 0} (f : Figure X) (is : IsFigure f) (p : Times) where
  -- a state lasts until h in the words of the standard exactly where it waits until h by the rules
  pub lasts-waits : (x : Owing X) (h : ℕ) → Lasts f p x h ↔ Waits (rules_of f p) x h
  lasts-waits x h =
      let owed = IsWithin-owed h (closes_at f p x.phase) x.owes in
      let closes = closes-within h (f.window p x.phase) in (
        -- what the standard bounds are the close of the phase and the deadlines that must be kept
        λ lasts. owed.1 (All-append (λ m. h ≤ m) (closes_of (f.window p x.phase)) (f.sends_by p x.phase) (closes.1 lasts.0) lasts.1, lasts.2),
        λ within.
            let halves = owed.0 within in (
              closes.0 (All-front (λ m. h ≤ m) (closes_of (f.window p x.phase)) (f.sends_by p x.phase) halves.0),
              All-back (λ m. h ≤ m) (closes_of (f.window p x.phase)) (f.sends_by p x.phase) halves.0,
              halves.1,
            ),
      )

  -- a state that may end at h in the words of the standard, and waits until h, ends by the rules
  may-hide : (x : Owing X) (h : ℕ) → MayEnd f p x h → Waits (rules_of f p) x h → Hide (rules_of f p) x h (quiet f.ended)
  may-hide x h may waiting =
      record {
        opened = rw may.1 (open-within h (f.window p x.phase) may.0 ((lasts-waits x h).1 waiting).0);
        waited = waiting;
        gives = refl;
      }

  -- a state that ends by the rules may end by the figure
  -- x ends at the moment h, and y is the ended state
  hide-may : (x : Owing X) (h : ℕ) (y : Owing X) → Hide (rules_of f p) x h y → MayEnd f p x h
  hide-may x h y hide =
      let opened = open-owed h (list_any (λ owed. owed.must) x.owes) (f.window p x.phase) hide.opened in (within-open h (f.window p x.phase) opened.1, opened.0)

  -- where a run stands in a state, steps by the rules from there lead to where a longer run stands
  -- the run stands in x at the moment h, and the steps lead to y at the moment m; z is the state after the first step
  goes-stand : (events : List MachineEvent) (h : ℕ) (x : Owing X) → Stands f p events h x → (steps : List Step) (y : Owing X) (m : ℕ) →
      Goes (rules_of f p) x h steps y m → Stands f p (events ++ taken steps) m y
  -- without steps the run stands where it stood
  goes-stand events h x stands [] y m goes = rw (goes.0, goes.1, append-nil events) stands
  goes-stand events h x stands (Hides t ∷ steps) y m (z, low, does, goes) =
      -- a step that hides ends the run's transaction at t, and z is idle again
      let ended = ends events t x (waits events h t x stands low ((lasts-waits x t).1 does.waited)) (hide-may x t z does) in
      goes-stand events t z (subst (Stands f p events t) (sym does.gives) ended) steps y m goes
  goes-stand events h x stands (Takes e ∷ steps) y m (z, low, does, goes) =
      -- a step that takes e comes after the run has waited until its moment
      let led = takes events e x z (waits events h e.moment x stands low ((lasts-waits x e.moment).1 does.0)) (does.1).1 in
      subst (λ es. Stands f p es m y) (append_assoc events (e ∷ []) (taken steps)) (goes-stand (events ++ e ∷ []) e.moment z led steps y m goes)

  -- where a run by the rules stands, one in the words of the standard stands
  run-stands : (events : List MachineEvent) (m : ℕ) (y : Owing X) → RuledRun (rules_of f p) events m y → Stands f p events m y
  run-stands events m y run =
      let stands = run.stands in
      let there = goes-stand [] 0 (quiet f.idle) begins run.steps y stands.last stands.goes in
      waits events stands.last m y (subst (λ es. Stands f p es stands.last y) run.takes there) stands.reached ((lasts-waits y m).1 stands.waits)

  -- where a run in the words of the standard stands, one by the rules stands
  stands-run : (events : List MachineEvent) (m : ℕ) (y : Owing X) → Stands f p events m y → RuledRun (rules_of f p) events m y
  -- the run begins: no step was made
  stands-run _ _ _ begins =
      record {
        steps = [];
        stands = record { last = 0; goes = (refl, refl); reached = omega arith; waits = IsWithin-none 0 _ (rules_lawful f is p).first_stays };
        takes = refl;
      }
  -- the run waits: the steps are those before
  stands-run _ _ _ (waits events h m x stands low lasts) =
      let run = stands-run events h x stands in
      let before = run.stands.reached in
      record {
        steps = run.steps;
        stands = record { last = run.stands.last; goes = run.stands.goes; reached = omega arith; waits = (lasts-waits x m).0 lasts };
        takes = run.takes;
      }
  -- the state ends: one hidden step more
  stands-run _ _ _ (ends events h x stands may) =
      let run = stands-run events h x stands in
      record {
        steps = run.steps ++ Hides h ∷ [];
        stands = record {
          last = h;
          -- the run goes on by the hidden step to ended, in which it waits
          goes = Goes-push (rules_of f p) (quiet f.idle) 0 run.steps (Hides h) (quiet f.ended)
              (record { before = x; at = run.stands.last; goes = run.stands.goes; low = run.stands.reached; does = may-hide x h may run.stands.waits });
          reached = omega arith;
          waits = IsWithin-none h _ (rules_lawful f is p).ended_stays;
        };
        takes = taken-append run.steps (Hides h ∷ []) ∙ append-nil (taken run.steps) ∙ run.takes;
      }
  -- the run takes an event: one step more that is seen
  stands-run _ _ _ (takes events e x y stands led) =
      -- `run` is the run to the state x before the event, and `taking` the step by which x takes e
      let run = stands-run events e.moment x stands in
      let r = rules_of f p in
      let taking : r.Take x e y = (run.stands.waits, led) in
      (Run-wait r (rules_lawful f is p) events e e.moment y).1
      (inl
      (record { among = (After-run r events e y).1 (record { before = x; among = run; takes = taking }); reached = omega arith; waits = (rules_lawful f is p).fresh x e y taking }))

  -- what stands at a moment lasts until then
  pub stands-lasts : (events : List MachineEvent) (m : ℕ) (y : Owing X) → Stands f p events m y → Lasts f p y m
  stands-lasts events m y stands = (lasts-waits y m).1 (stands-run events m y stands).stands.waits

  -- a run stands in the words of the standard exactly if it stands by the rules
  pub stands-runs : (events : List MachineEvent) (m : ℕ) (y : Owing X) → Stands f p events m y ↔ RuledRun (rules_of f p) events m y
  stands-runs events m y = (stands-run events m y, run-stands events m y)

  -- an event leads to the same states in the words of the standard as by the rules
  pub stands-after : (events : List MachineEvent) (e : MachineEvent) (y : Owing X) → StandsAfter f p events e y ↔ AfterRun (rules_of f p) events e y
  stands-after events e y = (
    -- x is the state in which one stands before the event, and `run` the run of the events before it, which waits until the event
    λ after.
        let (x, stands, led) = after in
        let run = stands-run events e.moment x stands in
        (After-run (rules_of f p) events e y).1 (record { before = x; among = run; takes = (run.stands.waits, led) }),
    -- the converse: the run of the events before it stands at the moment of the event in the state that takes it
    λ after.
        let gives = (After-run (rules_of f p) events e y).0 after in
        (gives.before, run-stands events e.moment gives.before gives.among, gives.takes.1),
  )

  -- a run over no event stands where one can wait from the first state
  pub stands-wait_first : (m : ℕ) (y : Owing X) → Stands f p [] m y ↔ Wait (rules_of f p) (λ x. x ≡ (rules_of f p).first) 0 m y
  stands-wait_first m y =
      let runs = stands-runs [] m y in
      let waiting = Run-wait_first (rules_of f p) (rules_lawful f is p) m y in
      (λ s. waiting.0 (runs.0 s), λ w. runs.1 (waiting.1 w))

  -- a run over some events stands where one can wait from the states to which the last of them leads
  pub stands-wait : (events : List MachineEvent) (e : MachineEvent) (m : ℕ) (y : Owing X) → Stands f p (events ++ e ∷ []) m y ↔ Wait (rules_of f p) (StandsAfter f p events e) e.moment m y
  stands-wait events e m y =
      let r = rules_of f p in
      -- `runs` tells the run by the rules, `waiting` cuts it at e, and `same` says that the event leads to the same states in both words
      let runs = stands-runs (events ++ e ∷ []) m y in
      let waiting = Run-wait r (rules_lawful f is p) events e m y in
      let same = Wait-iff r (StandsAfter f p events e) (AfterRun r events e) (stands-after events e) e.moment m y in
      (λ s. same.1 (waiting.0 (runs.0 s)), λ w. runs.1 (waiting.1 (same.0 w)))

  -- an event leads to what it gives from where runs over the events before it stand at its moment
  pub stands-gives : (events : List MachineEvent) (e : MachineEvent) (y : Owing X) → StandsAfter f p events e y ↔ RunGives (rules_of f p) (Stands f p events e.moment) e y
  stands-gives events e y =
      let r = rules_of f p in
      let after = stands-after events e y in
      let gives = After-run r events e y in
      let same = Gives-iff r (Stands f p events e.moment) (RuledRun r events e.moment) (stands-runs events e.moment) e y in
      (λ s. same.1 (gives.0 (after.0 s)), λ g. after.1 (gives.1 (same.0 g)))

  -- a run over events and more events contains a run over the former, which stands at any moment between the two
  -- the longer run stands in y at the moment n, and the shorter one in x at the moment m
  pub stands-fewer : (events more : List MachineEvent) (m n : ℕ) (y : Owing X) → All (λ e. e.moment ≤ m) events → All (λ e. m ≤ e.moment) more → m ≤ n → Stands f p (events ++ more) n y → (x : Owing X) × Stands f p events m x
  stands-fewer events more m n y low high to stands =
      let fewer = Run-fewer (rules_of f p) events more m n y low high to (stands-run (events ++ more) n y stands) in
      (fewer.0, run-stands events m fewer.0 fewer.1)

-- what stands at a moment lasts until then, whichever machine it is of
pub what_stands_lasts : (machine : MachineKind) (p : Times) (events : List MachineEvent) (m : ℕ) (x : Owing (transaction_of machine).Phase)
    → Stands (transaction_of machine).figure p events m x → Lasts (transaction_of machine).figure p x m
what_stands_lasts machine p = stands-lasts (transaction_of machine).figure (coded_holds machine).is_figure p
