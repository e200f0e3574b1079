-- The non-INVITE server by a wider tolerance: its rows stay, its windows open earlier and close later, and what may be sent and what must be are not paid by one
-- send, where the same bytes are the same message.
-- In the lemmas x is a phase, or the state before a step and y the state after it, k is the kind of a message, and h a moment or what is known of a row.
-- In cases of `Emits` a message that is sent has a row (`row`, `is_row`, `to`), or pays a debt (`left`, `pays`), or changes nothing (`stays`,
-- `same`), which only the INVITE server by RFC 3261 alone lets it (Stays). In cases of `Steps` a message that is received has a row, or has none and
-- changes nothing (`none`, `same`), and a restart leaves idle as it is (`idle`) and ends any other phase (`other`).
-- `Unit {0}` holds anyway, by `tt`.
use Rattle.std.proofs.Common.{◌≤◌, ◌*◌, ℕ, Bool, true, false, IsSomeAnd, IfSome, List, [], ◌∷◌, All, arith, if◌then◌else◌, ◌≡◌, inl, inr, filter, refl, sym, subst, ◌∙◌, ◌++◌}
use Rattle.std.proofs.lemmas.List.Elements.{All-nil, All-cons, All-head, All-filter, All-push, All-weaker, All-tail}
use Rattle.sip_standard.specs.declared.kind.Kind.{Kind}
use Rattle.sip_standard.specs.declared.kind.Kind.TheVariants.{Request, Response}
use Rattle.sip_standard.specs.Times.{Times}
use Rattle.sip_standard.specs.MachineEvent.{MachineEvent}
use Rattle.sip_standard.specs.Figure.{Change, Owing, changed, quiet, Emits, Steps}
use Rattle.consequences.specs.Tolerance.{tolerant, AreOneKind}
use Rattle.sip_standard.specs.declared.action.Action.{Action}
use Rattle.sip_standard.specs.declared.action.Action.TheVariants.{Sent, Received, Failed, Mark, Restart}
use Rattle.sip_standard.specs.Kind.{IsProvisional, IsFinal}
use Rattle.sip_standard.specs.Provisional.{Is100}
use Rattle.sip_standard.specs.Debts.{Owed, softened, IsWithoutFirst}
use Rattle.sip_phases.proofs.debts.DebtLaws.{All-without}
use Rattle.consequences.proofs.lemmas.server.Asleep.{nothing-to-pay}
use Rattle.consequences.proofs.lemmas.run.Running.{IsKept, left_at, stands-run, run-keeps}
use Rattle.std.specs.List.{Any}
use Rattle.sip_standard.specs.PlainServer.{PlainServerPhase, Idle, Trying, Proceeding, Completed, Receives, Sends, timer_window, plain_server}
use Rattle.consequences.specs.Events.{IsResponse, SendsResponse}
use Rattle.consequences.proofs.lemmas.server.Said.{IsOut, IsSaid, said-later, codes-are-one}
use Rattle.consequences.proofs.lemmas.run.Lists.{any-last, any-earlier}
use Rattle.consequences.proofs.lemmas.tolerance.Moments.{IsMoreTolerant}
use Rattle.consequences.proofs.lemmas.tolerance.Sorted.{same-bytes, no-must, yes-must}
use Rattle.consequences.proofs.lemmas.tolerance.Wider.{IsSteady, IsSorted, KeepsRuns}

-- What follows is of the times p, and of q, the same with a wider tolerance: `early` and `late` are how early and how late an element may act by q.
module _ (p : Times) (early late : ℕ) (wider : IsMoreTolerant p (tolerant early late p)) where
  -- the times with the wider tolerance
  abbrev q : Times
  q = tolerant early late p

  -- of the non-INVITE server, a window that has opened by the times p has opened by the wider times q
  plain-server-opens : (x : PlainServerPhase) (h : ℕ) → IsSomeAnd (timer_window p x) (λ w. w.0 ≤ h) → IsSomeAnd (timer_window q x) (λ w. w.0 ≤ h)
  plain-server-opens (Completed reliable final set) h opening = wider.opens set (if reliable then 0 else 64 * p.t1) h opening
  plain-server-opens x h opening = absurd opening

  -- a window that has not closed by the times p has not closed by the wider times q
  plain-server-closes : (x : PlainServerPhase) (h : ℕ) → IfSome (timer_window p x) (λ w. IfSome w.1 (λ close. h ≤ close)) → IfSome (timer_window q x) (λ w. IfSome w.1 (λ close. h ≤ close))
  plain-server-closes (Completed reliable final set) h closing = wider.closes set (if reliable then 0 else 64 * p.t1) h closing
  -- the other phases have no window
  plain-server-closes Idle h closing = tt
  plain-server-closes (Trying reliable) h closing = tt
  plain-server-closes (Proceeding reliable last) h closing = tt

  -- the non-INVITE server is steady: what the times p allow, the wider times q allow
  plain-server-steady : IsSteady plain_server p q
  plain-server-steady = record {
    -- no row of this server speaks of times, and no phase has to send
    received = λ x k e row h. h;
    received_only = λ x k e row h. h;
    sent = λ x k e row h. h;
    opens = plain-server-opens;
    closes = plain-server-closes;
    sends_by = λ x h all. all;
  }

-- one of the events is of a final response with these bytes
abbrev IsFinalSaid : List MachineEvent → List ℕ → Type 0
IsFinalSaid es final = Any (λ g. IsResponse IsFinal g × (g.text ≡ final)) es

-- the debt is sorted in proceeding: it was sent before as a provisional response, and only may be sent exactly if it is a 100
abbrev IsTold : List MachineEvent → Owed → Type 0
IsTold es o = (o.must ≡ true → ¬ (Is100 o.message)) × (o.must ≡ false → Is100 o.message) × IsSaid es o.message

-- the debt is sorted in completed: it must be sent and is the final response, or it was sent before as a provisional one
abbrev IsFinalOr : List MachineEvent → List ℕ → Owed → Type 0
IsFinalOr es final o = (o.must ≡ true → o.message ≡ final) × (o.must ≡ false → IsSaid es o.message)

-- the debts are sorted: exactly the 100s only may be sent in proceeding, and exactly the provisional responses in completed
abbrev AreSorted : List MachineEvent → PlainServerPhase → List Owed → Type 0
AreSorted es Idle owes = owes ≡ []
AreSorted es (Trying reliable) owes = owes ≡ []
AreSorted es (Proceeding reliable last) owes = IsSaid es last × All (IsTold es) owes
AreSorted es (Completed reliable final set) owes = IsFinalSaid es final × All (IsFinalOr es final) owes

-- the message is one that only may be sent where it is owed in this phase: a 100 in proceeding, a provisional response in completed, and any elsewhere
abbrev May : List MachineEvent → PlainServerPhase → List ℕ → Type 0
May es (Proceeding reliable last) message = Is100 message
May es (Completed reliable final set) message = IsSaid es message
May es x message = Unit {0}

-- debts stay sorted after more events
-- in idle and in trying nothing is owed; what was said before is said after more events too
sorted-later : (es more : List MachineEvent) (x : PlainServerPhase) (owes : List Owed) → AreSorted es x owes → AreSorted (es ++ more) x owes
sorted-later es more Idle owes sorted = sorted
sorted-later es more (Trying reliable) owes sorted = sorted
sorted-later es more (Proceeding reliable last) owes sorted =
    (said-later es more last sorted.0, All-weaker (IsTold es) (IsTold (es ++ more)) (λ o told. (told.0, told.1, said-later es more o.message told.2)) owes sorted.1)
sorted-later es more (Completed reliable final set) owes sorted = (
  any-earlier (λ g. IsResponse IsFinal g × (g.text ≡ final)) es more sorted.0,
  All-weaker (IsFinalOr es final) (IsFinalOr (es ++ more) final) (λ o told. (told.0, λ may. said-later es more o.message (told.1 may))) owes sorted.1,
)

-- debts stay sorted where some are left out
-- of no debts none is left; of others each that is left still has what all had
sorted-left : (es : List MachineEvent) (x : PlainServerPhase) (owes : List Owed) (test : Owed → Bool) → AreSorted es x owes → AreSorted es x (filter test owes)
sorted-left es Idle owes test sorted = rw sorted refl
sorted-left es (Trying reliable) owes test sorted = rw sorted refl
sorted-left es (Proceeding reliable last) owes test sorted = (sorted.0, All-filter test (IsTold es) owes sorted.1)
sorted-left es (Completed reliable final set) owes test sorted = (sorted.0, All-filter test (IsFinalOr es final) owes sorted.1)

-- debts stay sorted where one is paid
-- in idle and in trying there is no debt to pay; elsewhere each debt that is left still has what all had
sorted-without : (P : Owed → Type 0) (es : List MachineEvent) (x : PlainServerPhase) (owes left : List Owed) → IsWithoutFirst P owes left → AreSorted es x owes → AreSorted es x left
sorted-without P es Idle owes left pays sorted = absurd (nothing-to-pay P left (subst (λ os. IsWithoutFirst P os left) sorted pays))
sorted-without P es (Trying reliable) owes left pays sorted = absurd (nothing-to-pay P left (subst (λ os. IsWithoutFirst P os left) sorted pays))
sorted-without P es (Proceeding reliable last) owes left pays sorted = (sorted.0, All-without P (IsTold es) owes left pays sorted.1)
sorted-without P es (Completed reliable final set) owes left pays sorted = (sorted.0, All-without P (IsFinalOr es final) owes left pays sorted.1)

-- debts that were sent as provisional responses, once softened, only may be sent after the final response
soft : (es : List MachineEvent) (final : List ℕ) (owes : List Owed) → All (λ o. IsSaid es o.message) owes → All (IsFinalOr es final) (softened owes)
soft es final [] all = All-nil (IsFinalOr es final)
soft es final (o ∷ os) all =
    All-cons (IsFinalOr es final) (record { message = o.message; deadline = o.deadline; must = false }) (softened os) (λ must. absurd (no-must must), λ may. All-head (λ o. IsSaid es o.message) o os all)
    (soft es final os (All-tail (λ o. IsSaid es o.message) o os all))

-- What follows is of the non-INVITE server with the times p.
module _ (p : Times) where
  -- What follows is of one event e that comes after the events es.
  module _ (es : List MachineEvent) (e : MachineEvent) where
    -- the events with the event that comes
    abbrev Now : List MachineEvent
    Now = es ++ e ∷ []

    -- the row of a received message keeps the debts sorted
    received : (x : PlainServerPhase) (k : Kind) (row : PlainServerPhase × Change) (owes : List Owed) → AreSorted es x owes → Receives p x k e row → AreSorted Now row.0 (changed p e.moment row.1 owes)
    -- the request begins the transaction, in which nothing is owed; in proceeding it asks for the last response, which must be sent again unless it is a 100
    received Idle (Request method) row owes sorted h = rw h sorted
    received (Proceeding reliable last) (Request method) row owes sorted (inl h) =
        let later = sorted-later es (e ∷ []) (Proceeding reliable last) owes sorted in
        rw h.1 (later.0, All-push (IsTold Now) owes _ later.1 (λ must. h.0, λ may. absurd (yes-must may), later.0))
    -- the last response is a 100, which need not be sent again; in completed the final response must be
    received (Proceeding reliable last) (Request method) row owes sorted (inr h) =
        let later = sorted-later es (e ∷ []) (Proceeding reliable last) owes sorted in
        rw h.1 (later.0, All-push (IsTold Now) owes _ later.1 (λ must. absurd (no-must must), λ may. h.0, later.0))
    received (Completed reliable final set) (Request method) row owes sorted h =
        let later = sorted-later es (e ∷ []) (Completed reliable final set) owes sorted in
        rw h (later.0, All-push (IsFinalOr Now final) owes _ later.1 (λ must. refl, λ may. absurd (yes-must may)))
    received x k row owes sorted h = absurd h

    -- a provisional response that goes out now is one that was sent
    said-now : (code : ℕ) → IsOut e → e.kind ≡ Response code → IsProvisional code → IsSaid Now e.text
    said-now code out kind is_provisional = any-last (λ g. SendsResponse IsProvisional g × (g.text ≡ e.text)) es e ((out, (code, kind, is_provisional)), refl)

    -- a final response that comes now is one of the events
    final-now : (code : ℕ) → e.kind ≡ Response code → IsFinal code → IsFinalSaid Now e.text
    final-now code kind is_final = any-last (λ g. IsResponse IsFinal g × (g.text ≡ e.text)) es e ((code, kind, is_final), refl)

    -- the row of a sent message keeps the debts sorted
    sent : (x : PlainServerPhase) (k : Kind) (row : PlainServerPhase × Change) (owes : List Owed) → IsOut e → e.kind ≡ k → AreSorted es x owes → Sends p x k e row → AreSorted Now row.0 (changed p e.moment row.1 owes)
    -- in trying nothing was owed; in proceeding what was owed stays sorted at a provisional response, and only may be sent after a final one
    sent (Trying reliable) (Response code) row owes out kind sorted (inl h) = rw (h.1, sorted) (said-now code out kind h.0, All-nil (IsTold Now))
    sent (Trying reliable) (Response code) row owes out kind sorted (inr h) = rw (h.1, sorted) (final-now code kind h.0, All-nil (IsFinalOr Now e.text))
    sent (Proceeding reliable last) (Response code) row owes out kind sorted (inl h) =
        rw h.1 (said-now code out kind h.0, (sorted-later es (e ∷ []) (Proceeding reliable last) owes sorted).1)
    sent (Proceeding reliable last) (Response code) row owes out kind sorted (inr h) =
        rw h.1 (final-now code kind h.0, soft Now e.text owes (All-weaker (IsTold es) (λ o. IsSaid Now o.message) (λ o told. said-later es (e ∷ []) o.message told.2) owes sorted.1))
    sent x k row owes out kind sorted h = absurd h

    -- a send keeps the debts sorted
    emits : (x y : Owing PlainServerPhase) → IsOut e → AreSorted es x.phase x.owes → Emits plain_server p e x y → AreSorted Now y.phase y.owes
    emits x y out sorted (inl (row, is_row, to)) = rw to (sent x.phase e.kind row x.owes out refl sorted is_row)
    emits x y out sorted (inr (inl (left, pays, to))) = rw to (sorted-without _ Now x.phase x.owes left pays (sorted-later es (e ∷ []) x.phase x.owes sorted))
    emits x y out sorted (inr (inr (stays, same))) = absurd stays

    -- a step keeps the debts sorted
    steps : (a : Action) (x y : Owing PlainServerPhase) → e.action ≡ a → AreSorted es x.phase x.owes → Steps plain_server p a e x y → AreSorted Now y.phase y.owes
    -- a received message leads along a row, or leaves all as it is; what is sent or refused pays or leads along a row
    steps Received x y was sorted (inl (row, is_row, to)) = rw to (received x.phase e.kind row x.owes sorted is_row)
    steps Received x y was sorted (inr (none, same)) = rw same (sorted-later es (e ∷ []) x.phase x.owes sorted)
    steps Sent x y was sorted h = emits x y (inl was) sorted h
    steps Failed x y was sorted h = emits x y (inr was) sorted h
    -- a mark is no step, and after a restart nothing is owed
    steps Mark x y was sorted h = absurd h
    steps Restart x y was sorted (inl (idle, to)) = rw to refl
    steps Restart x y was sorted (inr (other, to)) = rw to refl

  -- a run keeps the debts sorted
  kept : IsKept plain_server p (λ es m y. AreSorted es y.phase y.owes)
  kept = record {
    as_it_waits = λ es h m x sorted low lasts. sorted;
    as_it_ends = λ es h x sorted may. refl;
    as_it_takes = λ es e x y sorted take. steps es e e.action (record { phase = x.phase; owes = left_at e x }) y refl (sorted-left es x.phase x.owes _ sorted) take;
  }

  -- the final response is not also a provisional one that was sent, where the same bytes are the same message
  not-said : (es : List MachineEvent) (final : List ℕ) → AreOneKind es → IsFinalSaid es final → ¬ (IsSaid es final)
  -- g, at the place i, is the event in which the final response was sent, and h, at the place j, would be that of a provisional one with the same bytes
  not-said es final one (i, g, i-low, i-at, (is_final, g-text)) (j, h, j-low, j-at, (sends, h-text)) =
      by is_final.0 sends.1.0 is_final.1 sends.1.1 is_final.2 sends.1.2
    where
      -- events with the same bytes have the same kind
      same : g.kind ≡ h.kind
      same = one g h (i, i-low, i-at) (j, j-low, j-at) (g-text ∙ sym h-text)

      -- where the two events have one code, it is not both final and provisional
      by : (a b : ℕ) → g.kind ≡ Response a → h.kind ≡ Response b → IsFinal a → ¬ (IsProvisional b)
      by a b g-kind h-kind final_code provisional_code =
          let codes : a ≡ b = codes-are-one a b (sym g-kind ∙ same ∙ h-kind) in absurd (omega (arith, codes, final_code.0, provisional_code.1))

  -- the bytes of a debt tell whether it must be sent, where the debts are sorted
  -- in idle and in trying nothing is owed; in proceeding this is what sorted means; in completed a message is not both final and provisional
  told : (es : List MachineEvent) (x : PlainServerPhase) (owes : List Owed) → AreOneKind es → AreSorted es x owes → All (λ o. (o.must ≡ true → ¬ (May es x o.message)) × (o.must ≡ false → May es x o.message)) owes
  told es Idle owes one sorted = rw sorted (All-nil (λ o. (o.must ≡ true → ¬ (Unit {0})) × (o.must ≡ false → Unit {0})))
  told es (Trying reliable) owes one sorted = rw sorted (All-nil (λ o. (o.must ≡ true → ¬ (Unit {0})) × (o.must ≡ false → Unit {0})))
  told es (Proceeding reliable last) owes one sorted =
      All-weaker (IsTold es) (λ o. (o.must ≡ true → ¬ (Is100 o.message)) × (o.must ≡ false → Is100 o.message)) (λ o is. (is.0, is.1)) owes sorted.1
  told es (Completed reliable final set) owes one sorted =
      All-weaker (IsFinalOr es final) (λ o. (o.must ≡ true → ¬ (IsSaid es o.message)) × (o.must ≡ false → IsSaid es o.message))
      (λ o is. (λ must said. not-said es final one sorted.0 (subst (IsSaid es) (is.0 must) said), is.1)) owes sorted.1

  -- the non-INVITE server is sorted
  plain-server-sorted : IsSorted plain_server p May
  plain-server-sorted = record {
    sorted = λ es m y one stands. told es y.phase y.owes one (run-keeps plain_server p (λ es h x. AreSorted es x.phase x.owes) kept es (quiet Idle) 0 m y refl (stands-run plain_server p es m y stands));
    decides = λ es x k e message may. same-bytes message e.text;
    alike = λ es x k e a b pays also may. subst (May es x) (also ∙ sym pays) may;
  }

-- the non-INVITE server shows that a wider tolerance keeps its runs
pub plain_server_keeps_runs : KeepsRuns plain_server
plain_server_keeps_runs = record { May = λ p. May; steady = plain-server-steady; sorted = plain-server-sorted }
