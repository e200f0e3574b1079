-- The INVITE servers by a wider tolerance: their rows stay, their windows open earlier and close later, and what may be sent and what must be are not paid by one send.
-- In the lemmas x is a phase, or the state before a step and y the state after it, k is the kind of a message, h a moment or what is known of a row, and o a debt.
-- In cases of `Emits` a message that is sent has a row (`row`, `is_row`, `to`), or pays a debt (`left`, `pays`), or changes nothing (`stays`,
-- `same`), which only the INVITE server by RFC 3261 alone lets it (Stays). In cases of `Steps` a message that is received has a row, or has none and
-- changes nothing (`none`, `same`), and a restart leaves idle as it is (`idle`) and ends any other phase (`other`).
-- `Unit {0}` holds anyway, by `tt`.
use Rattle.std.proofs.Common.{◌≤◌, ◌*◌, ℕ, Bool, true, false, Some, None, IsSomeAnd, IfSome, List, [], ◌∷◌, All, if◌then◌else◌, ◌≡◌, inl, inr, filter, refl, sym, subst, ◌∙◌}
use Rattle.std.proofs.lemmas.List.Elements.{All-nil, All-cons, All-head, All-filter, All-push, All-weaker}
use Rattle.sip_standard.specs.declared.kind.Kind.{Kind}
use Rattle.sip_standard.specs.declared.kind.Kind.TheVariants.{Request, Response}
use Rattle.sip_standard.specs.declared.kind.Method.TheVariants.{Invite, Ack}
use Rattle.sip_standard.specs.Times.{Times}
use Rattle.sip_standard.specs.Window.{close_at}
use Rattle.sip_standard.specs.MachineEvent.{MachineEvent}
use Rattle.sip_standard.specs.Figure.{Change, Owing, changed, quiet, Emits, Steps}
use Rattle.sip_standard.specs.InviteServer as server
use Rattle.sip_standard.specs.InviteServer3261 as server_3261
use Rattle.consequences.specs.Tolerance.{tolerant}
use Rattle.std.proofs.Math.Decide.{dec_le}
use Rattle.sip_standard.specs.declared.action.Action.{Action}
use Rattle.sip_standard.specs.declared.action.Action.TheVariants.{Sent, Received, Failed, Mark, Restart}
use Rattle.sip_standard.specs.Kind.{IsSuccess}
use Rattle.sip_standard.specs.Provisional.{Is100}
use Rattle.sip_standard.specs.Debts.{Owed, softened, IsWithoutFirst}
use Rattle.sip_phases.proofs.debts.DebtLaws.{All-without}
use Rattle.consequences.proofs.lemmas.server.Asleep.{nothing-to-pay}
use Rattle.consequences.proofs.lemmas.run.Running.{IsKept, left_at, stands-run, run-keeps}
use Rattle.consequences.proofs.lemmas.tolerance.Moments.{IsMoreTolerant}
use Rattle.consequences.proofs.lemmas.tolerance.Sorted.{same-bytes, no-must, yes-must}
use Rattle.consequences.proofs.lemmas.tolerance.Wider.{IsSteady, IsSorted, KeepsRuns}

-- What follows is of the times p, and of q, the same with a wider tolerance: `early` and `late` are how early and how late an element may act by q.
module _ (p : Times) (early late : ℕ) (wider : IsMoreTolerant p (tolerant early late p)) where
  -- the times with the wider tolerance
  abbrev q : Times
  q = tolerant early late p

  -- a row of a message that is sent by the times p is one by the wider times q
  -- only the row of completed, the final response again by timer G, depends on the tolerance
  server-sent : (x : server.InviteServerPhase) (k : Kind) (e : MachineEvent) (row : server.InviteServerPhase × Change) → server.Sends p x k e row → server.Sends q x k e row
  server-sent (server.Proceeding reliable set last) (Response code) e row h = h
  server-sent (server.Accepted set) (Response code) e row h = h
  server-sent (server.Completed reliable final set repeat interval) (Response code) e row h = (wider.retransmits reliable final repeat interval e h.0, h.1)
  server-sent x k e row h = absurd h

  -- a window that has opened by the times p has opened by the wider times q
  -- each timer that p lets fire q lets fire: L, H and I; other phases have no window
  server-opens : (x : server.InviteServerPhase) (h : ℕ) → IsSomeAnd (server.timer_window p x) (λ w. w.0 ≤ h) → IsSomeAnd (server.timer_window q x) (λ w. w.0 ≤ h)
  server-opens (server.Accepted set) h opening = wider.opens set (64 * p.t1) h opening
  server-opens (server.Completed reliable final set repeat interval) h opening = wider.opens set (64 * p.t1) h opening
  server-opens (server.Confirmed reliable set) h opening = wider.opens set (if reliable then 0 else p.t4) h opening
  server-opens x h opening = absurd opening

  -- a window that has not closed by the times p has not closed by the wider times q
  server-closes : (x : server.InviteServerPhase) (h : ℕ) → IfSome (server.timer_window p x) (λ w. IfSome w.1 (λ close. h ≤ close)) → IfSome (server.timer_window q x) (λ w. IfSome w.1 (λ close. h ≤ close))
  server-closes (server.Accepted set) h closing = wider.closes set (64 * p.t1) h closing
  server-closes (server.Completed reliable final set repeat interval) h closing = wider.closes set (64 * p.t1) h closing
  server-closes (server.Confirmed reliable set) h closing = wider.closes set (if reliable then 0 else p.t4) h closing
  -- the other phases have no window
  server-closes server.Idle h closing = tt
  server-closes (server.Proceeding reliable set last) h closing = tt

  -- what must be sent by the times p need not be sent earlier by the wider times q
  server-sends-by : (x : server.InviteServerPhase) (h : ℕ) → All (λ last. h ≤ last) (server.sends_by p x) → All (λ last. h ≤ last) (server.sends_by q x)
  -- the first response within 200 ms, and the final response again by timer G
  server-sends-by (server.Proceeding reliable set None) h all =
      All-cons (λ last. h ≤ last) (close_at q set 200) [] (wider.closes set 200 h (All-head (λ last. h ≤ last) (close_at p set 200) [] all)) (All-nil (λ last. h ≤ last))
  server-sends-by (server.Proceeding reliable set (Some last)) h all = all
  server-sends-by (server.Completed reliable final set repeat interval) h all = wider.repeats reliable repeat interval h all
  -- no other phase has to send
  server-sends-by server.Idle h all = all
  server-sends-by (server.Accepted set) h all = all
  server-sends-by (server.Confirmed reliable set) h all = all

  -- the INVITE server by RFC 6026 is steady: what the times p allow, the wider times q allow
  server-steady : IsSteady server.invite_server p q
  server-steady = record {
    -- the rows of received messages do not speak of times
    received = λ x k e row h. h;
    received_only = λ x k e row h. h;
    sent = server-sent;
    opens = server-opens;
    closes = server-closes;
    sends_by = server-sends-by;
  }

  -- a row of a message that the server by RFC 3261 alone sends by the times p is one by the wider times q
  -- only the row of completed, the final response again by timer G, depends on the tolerance
  server-3261-sent : (x : server_3261.InviteServer3261Phase) (k : Kind) (e : MachineEvent) (row : server_3261.InviteServer3261Phase × Change) → server_3261.Sends p x k e row → server_3261.Sends q x k e row
  server-3261-sent server_3261.Passed (Response code) e row h = h
  server-3261-sent (server_3261.In (server.Proceeding reliable set last) again) (Response code) e row h = h
  server-3261-sent (server_3261.In (server.Completed reliable final set repeat interval) again) (Response code) e row h =
      (h.0, (h.1.0, server-sent (server.Completed reliable final set repeat interval) (Response code) e h.1.0 h.1.1, h.1.2))
  server-3261-sent x k e row h = absurd h

  -- of the server by RFC 3261 alone, a window that has opened by the times p has opened by the wider times q
  server-3261-opens : (x : server_3261.InviteServer3261Phase) (h : ℕ) → IsSomeAnd (server_3261.timer_window p x) (λ w. w.0 ≤ h) → IsSomeAnd (server_3261.timer_window q x) (λ w. w.0 ≤ h)
  server-3261-opens server_3261.Passed h opening = absurd opening
  server-3261-opens (server_3261.In x again) h opening = server-opens x h opening

  -- of the server by RFC 3261 alone, a window that has not closed by the times p has not closed by the wider times q
  server-3261-closes : (x : server_3261.InviteServer3261Phase) (h : ℕ) → IfSome (server_3261.timer_window p x) (λ w. IfSome w.1 (λ close. h ≤ close)) → IfSome (server_3261.timer_window q x) (λ w. IfSome w.1 (λ close. h ≤ close))
  server-3261-closes server_3261.Passed h closing = tt
  server-3261-closes (server_3261.In x again) h closing = server-closes x h closing

  -- the server by RFC 3261 alone need not send earlier by the wider times q
  server-3261-sends-by : (x : server_3261.InviteServer3261Phase) (h : ℕ) → All (λ last. h ≤ last) (server_3261.sends_by p x) → All (λ last. h ≤ last) (server_3261.sends_by q x)
  server-3261-sends-by server_3261.Passed h all = all
  server-3261-sends-by (server_3261.In x again) h all = server-sends-by x h all

  -- the INVITE server by RFC 3261 alone is steady: what the times p allow, the wider times q allow
  server-3261-steady : IsSteady server_3261.invite_server_3261 p q
  server-3261-steady = record {
    -- the rows of received messages do not speak of times
    received = λ x k e row h. h;
    received_only = λ x k e row h. h;
    sent = server-3261-sent;
    opens = server-3261-opens;
    closes = server-3261-closes;
    sends_by = server-3261-sends-by;
  }

-- What follows is of INVITE servers: in proceeding a 100 only may be sent and any other response must be, and later all that is owed only may be.

-- the debt is sorted in proceeding: it only may be sent exactly if it is a 100
abbrev IsTold : Owed → Type 0
IsTold o = (o.must ≡ true → ¬ (Is100 o.message)) × (o.must ≡ false → Is100 o.message)

-- the message is one that only may be sent where it is owed in this phase: a 100 in proceeding, and any message elsewhere
abbrev MayIn : server.InviteServerPhase → List ℕ → Type 0
MayIn (server.Proceeding reliable set last) message = Is100 message
MayIn x message = Unit {0}

-- the debts are sorted: in proceeding exactly the 100s only may be sent, and elsewhere all debts only may be
abbrev AreSorted : server.InviteServerPhase → List Owed → Type 0
AreSorted server.Idle owes = owes ≡ []
AreSorted (server.Proceeding reliable set last) owes = All IsTold owes
AreSorted x owes = All (λ o. o.must ≡ false) owes

-- debts that were softened only may be sent
soft : (owes : List Owed) → All (λ o. o.must ≡ false) (softened owes)
soft [] = All-nil (λ o. o.must ≡ false)
soft (o ∷ os) = All-push-front o os (soft os)
  where
    -- a softened debt in front of softened ones only may be sent, too
    All-push-front : (o : Owed) (os : List Owed) → All (λ k. k.must ≡ false) (softened os) → All (λ k. k.must ≡ false) (softened (o ∷ os))
    All-push-front o os all = All-cons (λ k. k.must ≡ false) (record { message = o.message; deadline = o.deadline; must = false }) (softened os) refl all

-- What follows is of the INVITE server by RFC 6026, with the times p.
module _ (p : Times) where
  -- debts stay sorted where some are left out
  -- of no debts none is left; of others each that is left still has what all had
  sorted-left : (x : server.InviteServerPhase) (e : MachineEvent) (owes : List Owed) (test : Owed → Bool) → AreSorted x owes → AreSorted x (filter test owes)
  sorted-left server.Idle e owes test sorted = rw sorted refl
  sorted-left (server.Proceeding reliable set last) e owes test sorted = All-filter test IsTold owes sorted
  sorted-left (server.Accepted set) e owes test sorted = All-filter test (λ o. o.must ≡ false) owes sorted
  sorted-left (server.Completed reliable final set repeat interval) e owes test sorted = All-filter test (λ o. o.must ≡ false) owes sorted
  sorted-left (server.Confirmed reliable set) e owes test sorted = All-filter test (λ o. o.must ≡ false) owes sorted

  -- debts stay sorted where one is paid
  -- in idle there is no debt to pay; elsewhere each debt that is left still has what all had
  sorted-without : (P : Owed → Type 0) (x : server.InviteServerPhase) (owes left : List Owed) → IsWithoutFirst P owes left → AreSorted x owes → AreSorted x left
  sorted-without P server.Idle owes left pays sorted = absurd (nothing-to-pay P left (subst (λ os. IsWithoutFirst P os left) sorted pays))
  sorted-without P (server.Proceeding reliable set last) owes left pays sorted = All-without P IsTold owes left pays sorted
  sorted-without P (server.Accepted set) owes left pays sorted = All-without P (λ o. o.must ≡ false) owes left pays sorted
  sorted-without P (server.Completed reliable final set repeat interval) owes left pays sorted = All-without P (λ o. o.must ≡ false) owes left pays sorted
  sorted-without P (server.Confirmed reliable set) owes left pays sorted = All-without P (λ o. o.must ≡ false) owes left pays sorted

  -- the row of a received message keeps the debts sorted
  sorted-received : (x : server.InviteServerPhase) (k : Kind) (e : MachineEvent) (row : server.InviteServerPhase × Change) (owes : List Owed) → AreSorted x owes → server.Receives p x k e row → AreSorted row.0 (changed p e.moment row.1 owes)
  -- the INVITE begins the transaction; in proceeding it asks for the last response, which must be sent again unless it is a 100
  sorted-received server.Idle (Request Invite) e row owes sorted h = rw (h, sorted) (All-nil IsTold)
  sorted-received (server.Proceeding reliable set (Some last)) (Request Invite) e row owes sorted (inl h) = rw h.1 (All-push IsTold owes _ sorted (λ must. h.0, λ may. absurd (yes-must may)))
  sorted-received (server.Proceeding reliable set (Some last)) (Request Invite) e row owes sorted (inr h) = rw h.1 (All-push IsTold owes _ sorted (λ must. absurd (no-must must), λ may. h.0))
  sorted-received (server.Proceeding reliable set None) k e row owes sorted h = absurd h
  -- in completed it asks for the final response, which may be sent again; an ACK changes no debt
  sorted-received (server.Completed reliable final set repeat interval) (Request Invite) e row owes sorted h = rw h (All-push (λ o. o.must ≡ false) owes _ sorted refl)
  sorted-received (server.Completed reliable final set repeat interval) (Request Ack) e row owes sorted h = rw h sorted
  sorted-received x k e row owes sorted h = absurd h

  -- the row of a sent message keeps the debts sorted
  -- a provisional response leaves the debts as they are, a final one softens them; in accepted and in completed all only may be sent already
  sorted-sent : (x : server.InviteServerPhase) (k : Kind) (e : MachineEvent) (row : server.InviteServerPhase × Change) (owes : List Owed) → AreSorted x owes → server.Sends p x k e row → AreSorted row.0 (changed p e.moment row.1 owes)
  sorted-sent (server.Proceeding reliable set last) (Response code) e row owes sorted (inl h) = rw h.1 sorted
  sorted-sent (server.Proceeding reliable set last) (Response code) e row owes sorted (inr (inl h)) = rw h.1 (soft owes)
  sorted-sent (server.Proceeding reliable set last) (Response code) e row owes sorted (inr (inr h)) = rw h.1 (soft owes)
  sorted-sent (server.Accepted set) (Response code) e row owes sorted h = rw h.1 sorted
  sorted-sent (server.Completed reliable final set repeat interval) (Response code) e row owes sorted h = rw h.1 sorted
  sorted-sent x k e row owes sorted h = absurd h

  -- the bytes of a debt tell whether it must be sent, where the debts are sorted
  told : (x : server.InviteServerPhase) (owes : List Owed) → AreSorted x owes → All (λ o. (o.must ≡ true → ¬ (MayIn x o.message)) × (o.must ≡ false → MayIn x o.message)) owes
  -- in idle nothing is owed; in proceeding this is what sorted means; in the other phases sorted debts are all ones that only may be sent
  told server.Idle owes sorted = rw sorted (All-nil (λ o. (o.must ≡ true → ¬ (Unit {0})) × (o.must ≡ false → Unit {0})))
  told (server.Proceeding reliable set last) owes sorted = sorted
  told (server.Accepted set) owes sorted = All-weaker (λ o. o.must ≡ false) (λ o. (o.must ≡ true → ¬ (Unit {0})) × (o.must ≡ false → Unit {0})) (λ o may. (λ must. absurd (yes-must (sym must ∙ may)), λ is. tt)) owes sorted
  told (server.Completed reliable final set repeat interval) owes sorted =
      All-weaker (λ o. o.must ≡ false) (λ o. (o.must ≡ true → ¬ (Unit {0})) × (o.must ≡ false → Unit {0})) (λ o may. (λ must. absurd (yes-must (sym must ∙ may)), λ is. tt)) owes sorted
  told (server.Confirmed reliable set) owes sorted =
      All-weaker (λ o. o.must ≡ false) (λ o. (o.must ≡ true → ¬ (Unit {0})) × (o.must ≡ false → Unit {0})) (λ o may. (λ must. absurd (yes-must (sym must ∙ may)), λ is. tt)) owes sorted

  -- a message that is sent keeps the debts sorted
  emits : (e : MachineEvent) (x y : Owing server.InviteServerPhase) → AreSorted x.phase x.owes → Emits server.invite_server p e x y → AreSorted y.phase y.owes
  emits e x y sorted (inl (row, is_row, to)) = rw to (sorted-sent x.phase e.kind e row x.owes sorted is_row)
  emits e x y sorted (inr (inl (left, pays, to))) = rw to (sorted-without _ x.phase x.owes left pays sorted)
  emits e x y sorted (inr (inr (stays, same))) = absurd stays

  -- a step keeps the debts sorted
  steps : (a : Action) (e : MachineEvent) (x y : Owing server.InviteServerPhase) → AreSorted x.phase x.owes → Steps server.invite_server p a e x y → AreSorted y.phase y.owes
  -- a received message leads along a row, or leaves all as it is; what is sent or refused pays or leads along a row
  steps Received e x y sorted (inl (row, is_row, to)) = rw to (sorted-received x.phase e.kind e row x.owes sorted is_row)
  steps Received e x y sorted (inr (none, same)) = rw same sorted
  steps Sent e x y sorted h = emits e x y sorted h
  steps Failed e x y sorted h = emits e x y sorted h
  -- a mark is no step, and after a restart nothing is owed
  steps Mark e x y sorted h = absurd h
  steps Restart e x y sorted (inl (idle, to)) = rw to refl
  steps Restart e x y sorted (inr (other, to)) = rw to refl

  -- a run keeps the debts sorted
  server-kept : IsKept server.invite_server p (λ es m y. AreSorted y.phase y.owes)
  server-kept = record {
    as_it_waits = λ es h m x sorted low lasts. sorted;
    as_it_ends = λ es h x sorted may. refl;
    as_it_takes = λ es e x y sorted take. steps e.action e (record { phase = x.phase; owes = left_at e x }) y (sorted-left x.phase e x.owes _ sorted) take;
  }

  -- a message is paid by a send, or it is not
  pays : (x : server.InviteServerPhase) (k : Kind) (e : MachineEvent) (message : List ℕ) → Dec (server.Satisfies x k e message)
  pays x (Request method) e message = no (λ h. h)
  pays x (Response code) e message = same-bytes message e.text

  -- two messages for which one send pays are the same
  -- x is the phase, e the event of kind k that is sent, and a and b are the messages
  both-pay : (x : server.InviteServerPhase) (k : Kind) (e : MachineEvent) (a b : List ℕ) → server.Satisfies x k e a → server.Satisfies x k e b → b ≡ a
  both-pay x (Request method) e a b one other = absurd one
  both-pay x (Response code) e a b one other = other ∙ sym one

  -- the INVITE server by RFC 6026 is sorted
  server-sorted : IsSorted server.invite_server p (λ es x message. MayIn x message)
  server-sorted = record {
    -- a run keeps the debts sorted; the bytes of a send decide which debts it pays; and two debts that one send pays have the same bytes
    sorted = λ es m y one stands. told y.phase y.owes
        (run-keeps server.invite_server p (λ es h x. AreSorted x.phase x.owes) server-kept es (quiet server.Idle) 0 m y refl (stands-run server.invite_server p es m y stands));
    decides = λ es x k e message may. pays x k e message;
    alike = λ es x k e a b one other may. subst (MayIn x) (both-pay x k e a b one other) may;
  }

  -- What follows is of the INVITE server by RFC 3261 alone.

  -- the debts are sorted in this phase of the server by RFC 3261 alone
  abbrev AreSorted3261 : server_3261.InviteServer3261Phase → List Owed → Type 0
  AreSorted3261 server_3261.Passed owes = owes ≡ []
  AreSorted3261 (server_3261.In x again) owes = AreSorted x owes

  -- the message is one that only may be sent where it is owed in this phase of the server by RFC 3261 alone
  abbrev MayIn3261 : server_3261.InviteServer3261Phase → List ℕ → Type 0
  MayIn3261 server_3261.Passed message = Unit {0}
  MayIn3261 (server_3261.In x again) message = MayIn x message

  -- the row of a received message keeps the debts sorted
  -- after a 2xx nothing is owed, and an INVITE begins anew; else the row is one of the corrected server
  received-3261 : (x : server_3261.InviteServer3261Phase) (k : Kind) (e : MachineEvent) (row : server_3261.InviteServer3261Phase × Change) (owes : List Owed) → AreSorted3261 x owes → server_3261.Receives p x k e row
      → AreSorted3261 row.0 (changed p e.moment row.1 owes)
  received-3261 server_3261.Passed (Request Invite) e row owes sorted h = rw (h, sorted) (All-nil IsTold)
  received-3261 (server_3261.In x again) k e row owes sorted (after, is_row, to) = rw to (sorted-received x k e after owes sorted is_row)
  received-3261 server_3261.Passed k e row owes sorted h = absurd h

  -- the row of a sent message keeps the debts sorted
  sent-3261 : (x : server_3261.InviteServer3261Phase) (k : Kind) (e : MachineEvent) (row : server_3261.InviteServer3261Phase × Change) (owes : List Owed) → AreSorted3261 x owes → server_3261.Sends p x k e row
      → AreSorted3261 row.0 (changed p e.moment row.1 owes)
  -- a 2xx of the older server leads to passed, where nothing is owed, and any other response is a row of the corrected server
  sent-3261 server_3261.Passed (Response code) e row owes sorted h = rw h.1 sorted
  sent-3261 (server_3261.In (server.Proceeding reliable set last) again) (Response code) e row owes sorted (inl h) = rw h.1 refl
  sent-3261 (server_3261.In (server.Proceeding reliable set last) again) (Response code) e row owes sorted (inr (other, (after, is_row, to))) =
      rw to (sorted-sent (server.Proceeding reliable set last) (Response code) e after owes sorted is_row)
  sent-3261 (server_3261.In (server.Completed reliable final set repeat interval) again) (Response code) e row owes sorted (other, (after, is_row, to)) =
      rw to (sorted-sent (server.Completed reliable final set repeat interval) (Response code) e after owes sorted is_row)
  sent-3261 x k e row owes sorted h = absurd h

  -- a debt that is paid leaves the debts sorted
  without-3261 : (P : Owed → Type 0) (x : server_3261.InviteServer3261Phase) (owes left : List Owed) → IsWithoutFirst P owes left → AreSorted3261 x owes → AreSorted3261 x left
  without-3261 P server_3261.Passed owes left pays sorted = absurd (nothing-to-pay P left (subst (λ os. IsWithoutFirst P os left) sorted pays))
  without-3261 P (server_3261.In x again) owes left pays sorted = sorted-without P x owes left pays sorted

  -- a message that is sent keeps the debts sorted
  emits-3261 : (e : MachineEvent) (x y : Owing server_3261.InviteServer3261Phase) → AreSorted3261 x.phase x.owes → Emits server_3261.invite_server_3261 p e x y → AreSorted3261 y.phase y.owes
  emits-3261 e x y sorted (inl (row, is_row, to)) = rw to (sent-3261 x.phase e.kind e row x.owes sorted is_row)
  emits-3261 e x y sorted (inr (inl (left, pays, to))) = rw to (without-3261 _ x.phase x.owes left pays sorted)
  emits-3261 e x y sorted (inr (inr (stays, same))) = rw same sorted

  -- a step keeps the debts sorted
  steps-3261 : (a : Action) (e : MachineEvent) (x y : Owing server_3261.InviteServer3261Phase) → AreSorted3261 x.phase x.owes → Steps server_3261.invite_server_3261 p a e x y → AreSorted3261 y.phase y.owes
  -- a received message leads along a row, or leaves all as it is; what is sent or refused pays or leads along a row
  steps-3261 Received e x y sorted (inl (row, is_row, to)) = rw to (received-3261 x.phase e.kind e row x.owes sorted is_row)
  steps-3261 Received e x y sorted (inr (none, same)) = rw same sorted
  steps-3261 Sent e x y sorted h = emits-3261 e x y sorted h
  steps-3261 Failed e x y sorted h = emits-3261 e x y sorted h
  -- a mark is no step, and after a restart nothing is owed
  steps-3261 Mark e x y sorted h = absurd h
  steps-3261 Restart e x y sorted (inl (idle, to)) = rw to refl
  steps-3261 Restart e x y sorted (inr (other, to)) = rw to refl

  -- debts that are left out leave the others sorted
  left-3261 : (x : server_3261.InviteServer3261Phase) (e : MachineEvent) (owes : List Owed) (test : Owed → Bool) → AreSorted3261 x owes → AreSorted3261 x (filter test owes)
  left-3261 server_3261.Passed e owes test sorted = rw sorted refl
  left-3261 (server_3261.In x again) e owes test sorted = sorted-left x e owes test sorted

  -- a run of the server by RFC 3261 alone keeps the debts sorted
  kept-3261 : IsKept server_3261.invite_server_3261 p (λ es m y. AreSorted3261 y.phase y.owes)
  kept-3261 = record {
    as_it_waits = λ es h m x sorted low lasts. sorted;
    as_it_ends = λ es h x sorted may. refl;
    as_it_takes = λ es e x y sorted take. steps-3261 e.action e (record { phase = x.phase; owes = left_at e x }) y (left-3261 x.phase e x.owes _ sorted) take;
  }

  -- of sorted debts exactly those only may be sent of which MayIn3261 says so
  told-3261 : (x : server_3261.InviteServer3261Phase) (owes : List Owed) → AreSorted3261 x owes → All (λ o. (o.must ≡ true → ¬ (MayIn3261 x o.message)) × (o.must ≡ false → MayIn3261 x o.message)) owes
  told-3261 server_3261.Passed owes sorted = rw sorted (All-nil (λ o. (o.must ≡ true → ¬ (Unit {0})) × (o.must ≡ false → Unit {0})))
  told-3261 (server_3261.In x again) owes sorted = told x owes sorted

  -- a code is that of a 2xx, or it is not
  is-success : (code : ℕ) → Dec (IsSuccess code)
  is-success code = by (dec_le 200 code) (dec_le code 299)
    where
      -- it can be decided whether a code is from 200 to 299, by its two limits
      by : Dec (200 ≤ code) → Dec (code ≤ 299) → Dec (IsSuccess code)
      by (yes low) (yes high) = yes (low, high)
      by (no never) high = no (λ h. never h.0)
      by (yes low) (no never) = no (λ h. never h.1)

  -- a message is paid by a send, or it is not
  pays-3261 : (x : server_3261.InviteServer3261Phase) (k : Kind) (e : MachineEvent) (message : List ℕ) → Dec (server_3261.Satisfies x k e message)
  pays-3261 x (Request method) e message = no (λ h. h)
  pays-3261 x (Response code) e message = by (is-success code) (same-bytes message e.text)
    where
      -- it can be decided whether a code is no success and the message is the text of e
      by : Dec (IsSuccess code) → Dec (message ≡ e.text) → Dec (¬ (IsSuccess code) × (message ≡ e.text))
      by (yes success) same = no (λ h. h.0 success)
      by (no other) (yes same) = yes (other, same)
      by (no other) (no never) = no (λ h. never h.1)

  -- two messages for which one send of the server by RFC 3261 alone pays are the same
  -- x is the phase, e the event of kind k that is sent, and a and b are the messages
  both-pay-3261 : (x : server_3261.InviteServer3261Phase) (k : Kind) (e : MachineEvent) (a b : List ℕ) → server_3261.Satisfies x k e a → server_3261.Satisfies x k e b → b ≡ a
  both-pay-3261 x (Request method) e a b one other = absurd one
  both-pay-3261 x (Response code) e a b one other = other.1 ∙ sym one.1

  -- the INVITE server by RFC 3261 alone is sorted
  server-3261-sorted : IsSorted server_3261.invite_server_3261 p (λ es x message. MayIn3261 x message)
  server-3261-sorted = record {
    -- a run keeps the debts sorted; the bytes of a send decide which debts it pays; and two debts that one send pays have the same bytes
    sorted = λ es m y one stands. told-3261 y.phase y.owes
        (run-keeps server_3261.invite_server_3261 p (λ es h x. AreSorted3261 x.phase x.owes) kept-3261 es (quiet (server_3261.In server.Idle false)) 0 m y refl (stands-run server_3261.invite_server_3261 p es m y stands));
    decides = λ es x k e message may. pays-3261 x k e message;
    alike = λ es x k e a b one other may. subst (MayIn3261 x) (both-pay-3261 x k e a b one other) may;
  }

-- the INVITE server by RFC 6026 shows that a wider tolerance keeps its runs
pub invite_server_keeps_runs : KeepsRuns server.invite_server
invite_server_keeps_runs = record { May = λ p es x message. MayIn x message; steady = server-steady; sorted = server-sorted }

-- the INVITE server by RFC 3261 alone shows that a wider tolerance keeps its runs
pub invite_server_3261_keeps_runs : KeepsRuns server_3261.invite_server_3261
invite_server_3261_keeps_runs = record { May = λ p es x message. MayIn3261 p x message; steady = server-3261-steady; sorted = server-3261-sorted }
