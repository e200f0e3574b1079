-- The step of the machine of a figure from many states of the code at once.
-- In the lemmas x is a state before the step, and y one after it.
use Prim.Native.Nat.{suc, zero}
use Rattle.std.specs.Prelude.{◌≡◌, ◌≤◌, ◌<◌, ◌^◌, ◌↔◌, ◌⊎◌, ◌&&◌, ◌++◌, ℕ, IsTrue, Bool, true, false, Option, Some, None, List, [], ◌∷◌, All, filter, get_or, length, map, take, unwrap_or}
use Rattle.std.specs.Option.{option_map}
use Rattle.std.specs.List.{HoldsAt, list_any}
use Rattle.std.proofs.Common.{inl, inr, refl, sym, ◌∙◌, ap, subst, arith, cond, true≢false}
use Rattle.std.proofs.lemmas.Bool.Decides.{nat_tests}
use Rattle.std.proofs.lemmas.List.Elements.{All-append, All-head, All-weaker}
use Rattle.sip_standard.specs.declared.action.Action.{Action}
use Rattle.sip_standard.specs.declared.action.Action.TheVariants.{Sent, Received}
use Rattle.sip_ledger.specs.declared.debt.Debt.{Debt}
use Rattle.sip_ledger.specs.Debts.{debt_deadlines, is_payable, is_timely, is_within, earliest}
use Rattle.sip_ledger.specs.Lists.{from_to}
use Rattle.sip_machine.specs.declared.phases.Change.TheVariants as code
use Rattle.sip_machine.specs.declared.phases.Turn.{Turn}
use Rattle.sip_standard.specs.Times.{Times}
use Rattle.sip_standard.specs.Window.{close_at}
use Rattle.sip_machine.specs.Limits.{IsWithin}
use Rattle.sip_machine.specs.Texts.{Texts, Keeps}
use Rattle.sip_standard.specs.MachineEvent.{MachineEvent}
use Rattle.sip_machine.specs.Rules.{Covers, FromSome, Knows}
use Rattle.sip_standard.specs.Debts.{Owed}
use Rattle.sip_machine.specs.Deadlines.{must_deadlines, unexpired}
use Rattle.sip_machine.specs.Owes.{owes_names, owes_seen}
use Rattle.sip_standard.specs.Figure.{Figure, Owing, Steps}
use Rattle.sip_machine.specs.FigureRules.{TakeOf, closes_at, until_of}
use Rattle.sip_machine.specs.Owing.{CodeOwing, owing_seen, owing_names, OwingInRange, at_rest}
use Rattle.sip_machine.specs.inner.Turns.{turn_seen, turn_names, TurnInRange}
use Rattle.sip_machine.specs.inner.Single.{AnswersOne}
use Rattle.sip_phases.proofs.debts.DebtLaws.{IsWithin-earliest, All-front, All-back}
use Rattle.sip_phases.proofs.debts.OwesLaws.{must_deadlines-seen, unexpired-seen, All-names}
use Rattle.sip_machine.specs.inner.Paying.{PaysFor}
use Rattle.sip_machine.specs.inner.Effects.{Leads, LeadsFrom, Rests, RestsFrom, led_by, repaid_at, unexpired_at}
use Rattle.sip_machine.specs.inner.Pools.{beside}
use Rattle.sip_machine.proofs.pools.PoolLemmas.{state-at}
use Rattle.sip_machine.proofs.pools.CoversLemmas.{FromSome-none, Covers-none, answers-cover}
use Rattle.sip_machine.proofs.debts.DueLemmas.{pays-some, pays-none}
use Rattle.sip_machine.proofs.acks.HolderLemmas.{FindsFirst-same}
use Rattle.sip_machine.proofs.steps.OwingSteps.{heard-one, led-at, rested-pays}

-- where the test of a limit passes at a moment, the moment is within the limit
within-tells : (t : ℕ) (last : Option ℕ) → is_within t last ≡ true → IsWithin t last
within-tells t None is = tt
within-tells t (Some last) is = grind (arith, nat_tests)

-- where the test does not find a moment within a limit, it is not within
within-told : (t : ℕ) (last : Option ℕ) → is_within t last ≡ false → ¬ (IsWithin t last)
within-told t None is = λ _. true≢false is
within-told t (Some last) is = λ within. grind (arith, nat_tests)

-- What follows is of states of one phase, which are asked together, by the figure f with the times p: `seen` gives what a phase stands for beside the book
-- `texts`,
-- `names` gives the numbers that it names, and InRange says that they are in range.
module _ {S X : Type 0} (f : Figure X) (p : Times) (seen : Texts → S → X) (names : S → List ℕ) (InRange : S → Type 0) (texts : Texts) where
  -- a state lasts until t where its timers and the deadlines of what it must send do
  timely-lasts : (t : ℕ) (x : CodeOwing S) → IsWithin t (earliest (closes_at f p (seen texts x.phase))) → is_timely t x.owes ≡ true →
      IsWithin t (until_of f p (owing_seen seen texts x))
  timely-lasts t x timers timely =
      let closes = closes_at f p (seen texts x.phase) in
      -- the test of the debts says that no deadline of what must be sent is past, and t is past no timer either
      let due : IsWithin t (earliest (must_deadlines (owes_seen texts x.owes))) = rw (must_deadlines-seen texts x.owes) (within-tells t (earliest (debt_deadlines x.owes)) timely) in
      (IsWithin-earliest t (closes ++ must_deadlines (owes_seen texts x.owes))).1
      (All-append (λ m. t ≤ m) closes (must_deadlines (owes_seen texts x.owes)) ((IsWithin-earliest t closes).0 timers) ((IsWithin-earliest t (must_deadlines (owes_seen texts x.owes))).0 due))

  -- a state does not last until t where it must send something that is past at t
  late-ends : (t : ℕ) (x : CodeOwing S) → is_timely t x.owes ≡ false → ¬ (IsWithin t (until_of f p (owing_seen seen texts x)))
  late-ends t x late = λ within.
      let closes = closes_at f p (seen texts x.phase) in
      let musts = must_deadlines (owes_seen texts x.owes) in
      let due : IsWithin t (earliest musts) = (IsWithin-earliest t musts).1 (All-back (λ m. t ≤ m) closes musts ((IsWithin-earliest t (closes ++ musts)).0 within)) in
      within-told t (earliest (debt_deadlines x.owes)) late (rw (must_deadlines-seen texts x.owes) at due)

  -- a state does not last until t where its timers do not
  pub closed-ends : (t : ℕ) (x : CodeOwing S) → ¬ (IsWithin t (earliest (closes_at f p (seen texts x.phase)))) → ¬ (IsWithin t (until_of f p (owing_seen seen texts x)))
  closed-ends t x closed = λ within.
      let closes = closes_at f p (seen texts x.phase) in
      let musts = must_deadlines (owes_seen texts x.owes) in
      closed ((IsWithin-earliest t closes).1 (All-front (λ m. t ≤ m) closes musts ((IsWithin-earliest t (closes ++ musts)).0 within)))

  -- where a turn answers the row of a received message, the state that it gives answers where the message leads
  pub leads-received : (a : Action) (e : MachineEvent) (x : CodeOwing S) (turn : Option (Turn S)) → Received ≡ a →
      AnswersOne (turn_names names) (TurnInRange InRange) (turn_seen seen) texts (f.Receives p (seen texts x.phase) e.kind e) turn →
      Knows (owing_names names) texts x → OwingInRange InRange x → close_at p e.moment 0 < 2 ^ 50 →
      AnswersOne (owing_names names) (OwingInRange InRange) (owing_seen seen) texts (Leads f p a e (owing_seen seen texts (unexpired_at e.moment x)))
      (Some (led_by p e.moment (unwrap_or turn (record { phase = x.phase; change = code.Keeps })) x))
  leads-received a e x turn is one known fits small = rw (← is) (heard-one f p seen names InRange texts e x turn one known fits small)

  -- where a turn answers the row of a sent message, the state that it gives answers where the message leads
  pub leads-sent : (a : Action) (e : MachineEvent) (x : CodeOwing S) (turn : Option (Turn S)) → Sent ≡ a →
      AnswersOne (turn_names names) (TurnInRange InRange) (turn_seen seen) texts (f.Sends p (seen texts x.phase) e.kind e) turn →
      Knows (owing_names names) texts x → OwingInRange InRange x → close_at p e.moment 0 < 2 ^ 50 →
      AnswersOne (owing_names names) (OwingInRange InRange) (owing_seen seen) texts (Leads f p a e (owing_seen seen texts (unexpired_at e.moment x)))
      (option_map (λ turn. led_by p e.moment turn x) turn)
  leads-sent a e x turn is one known fits small = rw (← is) (led-at f p seen names InRange texts e x turn one known fits small)

  -- the answer stands for the only state of which P holds
  abbrev Owings : (Owing X → Type 0) → Option (CodeOwing S) → Type 0
  Owings P answer = AnswersOne (owing_names names) (OwingInRange InRange) (owing_seen seen) texts P answer

  -- the state lasts until t, and P holds
  abbrev pub Lasting : ℕ → CodeOwing S → (Owing X → Type 0) → Owing X → Type 0
  Lasting t x P y = IsWithin t (until_of f p (owing_seen seen texts x)) × P y

  -- where a state lasts until t, an answer for P is one for P of a state that lasts
  pub lasting-answers : (t : ℕ) (x : CodeOwing S) (P : Owing X → Type 0) (answer : Option (CodeOwing S)) → IsWithin t (until_of f p (owing_seen seen texts x)) → Owings P answer →
      Owings (Lasting t x P) answer
  lasting-answers t x P None within none = λ y h. none y h.1
  lasting-answers t x P (Some s) within one =
      record { only = λ y. (λ h. (one.only y).0 h.1, λ same. (within, (one.only y).1 same)); known = one.known; in_range = one.in_range }

  -- where the timers of a state last until t, an answer for P, given only where the state is timely, is one for P of a state that lasts
  timely-answers : (t : ℕ) (x : CodeOwing S) (P : Owing X → Type 0) (answer : Option (CodeOwing S)) (b : Bool) → is_timely t x.owes ≡ b →
      IsWithin t (earliest (closes_at f p (seen texts x.phase))) → Owings P answer → Owings (Lasting t x P) (cond b answer None)
  timely-answers t x P answer true is timers answers = lasting-answers t x P answer (timely-lasts t x timers is) answers
  timely-answers t x P answer false is timers answers = λ y h. late-ends t x is h.0

  -- What follows is of xs, states of one phase, and of one event e: the book knows the messages of the states, and their numbers are in range.
  module _ (e : MachineEvent) (phase : S) (xs : List (CodeOwing S)) (same : All (λ x. x.phase ≡ phase) xs) (known : All (Knows (owing_names names) texts) xs)
      (fits : All (OwingInRange InRange) xs) where
    -- the state of this phase that owes these debts
    abbrev pub InPhase : List Debt → CodeOwing S
    InPhase owes = record { phase = phase; owes = owes }

    -- what holds of the phase with any debts that the book knows holds of each of the states
    each-state : (P : CodeOwing S → Type 0) → ((owes : List Debt) → Knows (owing_names names) texts (InPhase owes) → OwingInRange InRange (InPhase owes) → P (InPhase owes)) → All P xs
    each-state P answers = λ k d low.
        let x = get_or xs k d in
        let is : InPhase x.owes ≡ x = ap (λ q. record { phase = q; owes = x.owes }) (sym (same k d low)) in
        subst P is (answers x.owes (subst (Knows (owing_names names) texts) (sym is) (known k d low)) (subst (OwingInRange InRange) (sym is) (fits k d low)))

    -- where the timers of the phase do not last until the event, no state leads anywhere
    pub closed-none : (P : CodeOwing S → Owing X → Type 0) → ¬ (IsWithin e.moment (earliest (closes_at f p (seen texts phase)))) →
        Covers (owing_names names) (OwingInRange InRange) (owing_seen seen) texts (FromSome (λ x. Lasting e.moment x (P x)) xs) []
    closed-none P closed = grind (arith, nat_tests, Covers-none, FromSome-none, each-state, closed-ends)

    -- where no row of the event leads from the phase, whatever is owed, no state leads anywhere
    pub leads-none : ((owes : List Debt) → Knows (owing_names names) texts (InPhase owes) → OwingInRange InRange (InPhase owes) →
        Owings (Leads f p e.action e (owing_seen seen texts (unexpired_at e.moment (InPhase owes)))) None) →
        Covers (owing_names names) (OwingInRange InRange) (owing_seen seen) texts (FromSome (LeadsFrom f p seen texts e) xs) []
    leads-none none =
        Covers-none (owing_names names) (OwingInRange InRange) (owing_seen seen) texts (FromSome (LeadsFrom f p seen texts e) xs)
        (λ y. FromSome-none (LeadsFrom f p seen texts e) xs y
        (each-state (λ x. ¬ (LeadsFrom f p seen texts e x y)) (λ owes knows fit h. none owes knows fit y h.1)))

    -- where a row of the event leads from the phase, whatever is owed, the timely states, led by it, cover what leads from all
    pub leads-some : (turn : Turn S) → IsWithin e.moment (earliest (closes_at f p (seen texts phase))) →
        ((owes : List Debt) → Knows (owing_names names) texts (InPhase owes) → OwingInRange InRange (InPhase owes) →
        Owings (Leads f p e.action e (owing_seen seen texts (unexpired_at e.moment (InPhase owes)))) (Some (led_by p e.moment turn (InPhase owes)))) →
        Covers (owing_names names) (OwingInRange InRange) (owing_seen seen) texts (FromSome (LeadsFrom f p seen texts e) xs)
        (map (led_by p e.moment turn) (filter (λ x. is_timely e.moment x.owes) xs))
    leads-some turn timers one =
        -- each of the states xs has this phase: a timely one gives the state that the turn leads to, and another gives none
        answers-cover (owing_names names) (OwingInRange InRange) (owing_seen seen) texts (LeadsFrom f p seen texts e) (λ x. is_timely e.moment x.owes) (led_by p e.moment turn) xs
        (each-state (λ x. Owings (LeadsFrom f p seen texts e x) (cond (is_timely e.moment x.owes) (Some (led_by p e.moment turn x)) None))
        (λ owes knows fit. timely-answers e.moment (InPhase owes) (Leads f p e.action e (owing_seen seen texts (unexpired_at e.moment (InPhase owes))))
        (Some (led_by p e.moment turn (InPhase owes))) (is_timely e.moment owes) refl timers (one owes knows fit)))

    -- where a send can pay one message alone, the answer is the state that has paid it where it can, and none where it cannot
    -- b says whether some debt can be paid: where one can, the state that paid it is the answer, and where none can, there is none
    paid-answers : (message : ℕ) (owes : List Debt) → ¬ (f.Stays (seen texts phase) e.kind) →
        All (λ debt. IsTrue (is_payable message e.moment debt) ↔ PaysFor (f.Satisfies (seen texts phase) e.kind e) texts e.moment debt) owes →
        Knows (owing_names names) texts (InPhase owes) → OwingInRange InRange (InPhase owes) → (b : Bool) → list_any (is_payable message e.moment) owes ≡ b →
        Owings (Rests f e (owing_seen seen texts (unexpired_at e.moment (InPhase owes)))) (cond b (Some (repaid_at e.moment message (InPhase owes))) None)
    paid-answers message owes moves tells knows fit true is =
        rested-pays f p seen names InRange texts e (InPhase owes) moves (Some message)
        (FindsFirst-same (λ debt. IsTrue (is_payable message e.moment debt)) (PaysFor (f.Satisfies (seen texts phase) e.kind e) texts e.moment) e.moment owes (Some message) tells
        (pays-some message e.moment owes is)) knows fit
    -- no debt can be paid, so the state gives nothing
    paid-answers message owes moves tells knows fit false is =
        rested-pays f p seen names InRange texts e (InPhase owes) moves None
        (FindsFirst-same (λ debt. IsTrue (is_payable message e.moment debt)) (PaysFor (f.Satisfies (seen texts phase) e.kind e) texts e.moment) e.moment owes None tells
        (pays-none message e.moment owes is)) knows fit

    -- where two tests are asked one in the other, both must pass
    timely-paid : (a b : Bool) (s : CodeOwing S) → cond b (cond a (Some s) None) None ≡ cond (a && b) (Some s) None
    timely-paid true true s = refl
    timely-paid true false s = refl
    timely-paid false true s = refl
    timely-paid false false s = refl

    -- the states that a message can pay and that are timely, each without what it pays, cover the states that rest after the event
    pub rests-paid : (message : ℕ) → IsWithin e.moment (earliest (closes_at f p (seen texts phase))) → ¬ (f.Stays (seen texts phase) e.kind) →
        ((debt : Debt) → Keeps texts debt.message →
        PaysFor (f.Satisfies (seen texts phase) e.kind e) texts e.moment debt ↔ IsTrue (is_payable message e.moment debt)) →
        Covers (owing_names names) (OwingInRange InRange) (owing_seen seen) texts (FromSome (RestsFrom f p seen texts e) xs)
        (map (repaid_at e.moment message) (filter (λ x. list_any (is_payable message e.moment) x.owes && is_timely e.moment x.owes) xs))
    rests-paid message timers moves tells =
        -- each of the states xs has this phase: one that can pay and is timely gives itself without what is paid, and another gives none
        answers-cover (owing_names names) (OwingInRange InRange) (owing_seen seen) texts (RestsFrom f p seen texts e)
        (λ x. list_any (is_payable message e.moment) x.owes && is_timely e.moment x.owes) (repaid_at e.moment message) xs
        (each-state (λ x. Owings (RestsFrom f p seen texts e x)
        (cond (list_any (is_payable message e.moment) x.owes && is_timely e.moment x.owes) (Some (repaid_at e.moment message x)) None))
        -- one state is asked whether it can pay, and then whether it is timely
        (λ owes knows fit.
        -- x is the state, P what rests of it after the event, and `can` whether it can pay; `one` is its answer before the test of time
        let x = InPhase owes in
        let P = Rests f e (owing_seen seen texts (unexpired_at e.moment x)) in
        let can = list_any (is_payable message e.moment) owes in
        -- the book has the messages of the debts, so that the test of a debt tells whether the send pays it
        let kept = All-names (Keeps texts) owes (All-back (Keeps texts) (names phase) (owes_names owes) knows) in
        let one = paid-answers message owes moves
        (All-weaker (λ debt. Keeps texts debt.message) (λ debt. IsTrue (is_payable message e.moment debt) ↔ PaysFor (f.Satisfies (seen texts phase) e.kind e) texts e.moment debt)
        (λ debt keeps. ((tells debt keeps).1, (tells debt keeps).0)) owes kept) knows fit can refl in
        subst (Owings (Lasting e.moment x P)) (timely-paid can (is_timely e.moment owes) (repaid_at e.moment message x))
        (timely-answers e.moment x P (cond can (Some (repaid_at e.moment message x)) None) (is_timely e.moment owes) refl timers one)))

-- What follows is of one state without what has expired at an event: the figure is f with the times p, and `seen` gives what a phase stands for beside the
-- book.
module _ {S X : Type 0} (f : Figure X) (p : Times) (seen : Texts → S → X) (texts : Texts) where
  -- the step of a state of the code that has lasted until the event, without what has expired, is the take of its state of the rules
  steps-same : (a : Action) (e : MachineEvent) (x : CodeOwing S) (y : Owing X) → e.action ≡ a →
      (IsWithin e.moment (until_of f p (owing_seen seen texts x)) × Steps f p a e (owing_seen seen texts (unexpired_at e.moment x)) y) ↔ TakeOf f p (owing_seen seen texts x) e y
  steps-same a e x y is =
      -- `at` is the state of the rules without the debts that have expired, and the code's state without these is seen as it
      let at : Owing X = record { phase = seen texts x.phase; owes = unexpired e.moment (owes_seen texts x.owes) } in
      let here : owing_seen seen texts (unexpired_at e.moment x) ≡ at
      = ap (λ (owes : List Owed). record { phase = seen texts x.phase; owes = owes }) (sym (unexpired-seen e.moment texts x.owes)) in (
        -- both ways: the action of the event is a
        λ h. (h.0, subst (λ b. Steps f p b e at y) (sym is) (subst (λ z. Steps f p a e z y) here h.1)),
        λ h. (h.0, subst (λ z. Steps f p a e z y) (sym here) (subst (λ b. Steps f p b e at y) is h.1)),
      )

  -- what leads from a state of the code is a step by a row of a state that has lasted until the event
  leads-is : (a : Action) (e : MachineEvent) (x : CodeOwing S) (y : Owing X) → e.action ≡ a →
      LeadsFrom f p seen texts e x y ↔ (IsWithin e.moment (until_of f p (owing_seen seen texts x)) × Leads f p a e (owing_seen seen texts (unexpired_at e.moment x)) y)
  leads-is a e x y is = grind (arith, nat_tests)

  -- where an event is a received message, what leads from a state is its take: where its row leads, or where it stays
  pub takes-received : (e : MachineEvent) → e.action ≡ Received → (x : CodeOwing S) (y : Owing X) → LeadsFrom f p seen texts e x y ↔ TakeOf f p (owing_seen seen texts x) e y
  takes-received e is x y =
      let leads = leads-is Received e x y is in
      let steps = steps-same Received e x y is in
      (λ h. steps.0 (leads.0 h), λ h. leads.1 (steps.1 h))

  -- where an event is a sent message, what leads from a state or rests is its take
  pub takes-sent : (e : MachineEvent) → e.action ≡ Sent → (x : CodeOwing S) (y : Owing X) →
      (LeadsFrom f p seen texts e x y ⊎ RestsFrom f p seen texts e x y) ↔ TakeOf f p (owing_seen seen texts x) e y
  takes-sent e is x y =
      let leads = leads-is Sent e x y is in
      let steps = steps-same Sent e x y is in (
        -- a step of a sent message is one by its row, or one at rest
        λ h. elim h [ inl row ↦ let r = leads.0 row in steps.0 (r.0, inl r.1) | inr rest ↦ steps.0 (rest.0, inr rest.1) ],
        λ h. let s = steps.1 h in elim s.1 [ inl row ↦ inl (leads.1 (s.0, row)) | inr rest ↦ inr (s.0, rest) ],
      )

-- what holds of all states from one index up to another, at least one, holds of the first of them
pub slice-first : {S : Type 0} (P : S → Type 0) (from to : ℕ) (xs : List S) (d : S) → from < to → to ≤ length xs → All P (from_to from to xs) → P (get_or xs from d)
slice-first P from zero xs d order le all = absurd (omega (arith, order))
slice-first P from (suc to) [] d order le all = absurd (omega (arith, le))
slice-first P zero (suc to) (x ∷ xs) d order le all = All-head P x (take to xs) all
slice-first P (suc from) (suc to) (x ∷ xs) d order le all = slice-first P from to xs d (omega (arith, order)) (omega (arith, le)) all

-- states that stand side by side are all of one phase, which the book knows and whose moments are within the limits
pub record AreOfPhase {S : Type 0} (names : S → List ℕ) (InRange : S → Type 0) (texts : Texts) (phase : S) (xs : List (CodeOwing S)) : Type 0 where
  pub known : Knows names texts phase
  pub in_range : InRange phase
  pub same : All (λ x. x.phase ≡ phase) xs

-- the states of a pool from one index up to another, at least one, are of the phase of the first where all are
pub in-run : {S : Type 0} (names : S → List ℕ) (InRange : S → Type 0) (texts : Texts) (phases : List S) (rows : List (List Debt)) (xs : List (CodeOwing S)) (from to : ℕ) (phase : S) →
    beside phases rows ≡ xs → phase ≡ get_or phases from phase → from < to → to ≤ length xs → All (Knows (owing_names names) texts) (from_to from to xs) →
    All (OwingInRange InRange) (from_to from to xs) → HoldsAt (λ first. All (λ x. x.phase ≡ first.phase) (from_to from to xs)) xs from →
    AreOfPhase names InRange texts phase (from_to from to xs)
in-run names InRange texts phases rows xs from to phase is here order le known fits same =
    let d = at_rest phase in
    -- `first` is the first state of the run, whose phase is the one in hand (`at`)
    let first = get_or xs from d in
    let at : first.phase ≡ phase = ap (λ z. z.phase) (state-at phases rows xs from phase d is (omega (arith, order, le))) ∙ sym here in
    -- what holds of each state of the run holds of its phase, and all have that phase
    record {
      known = subst (Knows names texts) at (All-front (Keeps texts) (names first.phase) (owes_names first.owes) (slice-first (Knows (owing_names names) texts) from to xs d order le known));
      in_range = subst InRange at (slice-first (OwingInRange InRange) from to xs d order le fits).0;
      same = All-weaker (λ x. x.phase ≡ first.phase) (λ x. x.phase ≡ phase) (λ x is. is ∙ at) (from_to from to xs) (same d);
    }
