-- The INVITE clients by a wider tolerance: their rows stay, their windows open earlier and close later, and all that they owe must be sent.
-- In the lemmas x is a phase, k the kind of a message, and h a moment or what is known of a row.
use Rattle.std.proofs.Common.{◌≤◌, ◌*◌, ℕ, true, false, Some, None, IsSomeAnd, IfSome, All, inl, inr}
use Rattle.sip_standard.specs.declared.kind.Kind.{Kind}
use Rattle.sip_standard.specs.declared.kind.Kind.TheVariants.{Request, Response}
use Rattle.sip_standard.specs.declared.kind.Method.TheVariants.{Invite, Ack, Cancel}
use Rattle.sip_standard.specs.Times.{Times}
use Rattle.sip_standard.specs.MachineEvent.{MachineEvent}
use Rattle.sip_standard.specs.Figure.{Change}
use Rattle.sip_standard.specs.InviteClient as client
use Rattle.sip_standard.specs.InviteClient3261 as client_3261
use Rattle.consequences.specs.Tolerance.{tolerant}
use Rattle.consequences.proofs.lemmas.tolerance.Moments.{IsMoreTolerant}
use Rattle.consequences.proofs.lemmas.tolerance.Sorted.{IsFirm, firm-sorted}
use Rattle.consequences.proofs.lemmas.tolerance.Wider.{IsSteady, IsSorted, KeepsRuns}

-- What follows is of the times p, and of q, the same with a wider tolerance: `early` and `late` are how early and how late an element may act by q.
module _ (p : Times) (early late : ℕ) (wider : IsMoreTolerant p (tolerant early late p)) where
  -- the times with the wider tolerance
  abbrev q : Times
  q = tolerant early late p

  -- a row of a message that is sent by the times p is one by the wider times q
  client-sent : (x : client.InviteClientPhase) (k : Kind) (e : MachineEvent) (row : client.InviteClientPhase × Change) → client.Sends p x k e row → client.Sends q x k e row
  -- of the rows of idle and calling only that of the INVITE again, by timer A, depends on the tolerance
  client-sent client.Idle (Request Invite) e row h = h
  client-sent client.Idle (Request Ack) e row h = h
  client-sent client.Idle (Request Cancel) e row h = h
  client-sent (client.Calling w) (Request Invite) e row h = (wider.retransmits w.reliable w.request w.set w.interval e h.0, h.1)
  -- the rows of a CANCEL do not speak of times
  client-sent (client.Proceeding reliable request None) (Request Cancel) e row h = h
  client-sent (client.Proceeding reliable request (Some first)) (Request Cancel) e row h = h
  client-sent (client.Accepted set) (Request Cancel) e row h = h
  client-sent (client.Completed reliable request set) (Request Cancel) e row h = h
  client-sent client.Ended (Request Cancel) e row h = h
  client-sent x k e row h = absurd h

  -- a window that has opened by the times p has opened by the wider times q
  -- each timer that p lets fire q lets fire: B, the wait after a CANCEL, M, and D; other phases have no window
  client-opens : (x : client.InviteClientPhase) (h : ℕ) → IsSomeAnd (client.timer_window p x) (λ w. w.0 ≤ h) → IsSomeAnd (client.timer_window q x) (λ w. w.0 ≤ h)
  client-opens (client.Calling w) h opening = wider.opens w.start (64 * p.t1) h opening
  client-opens (client.Proceeding reliable request (Some first)) h opening = wider.opens first (64 * p.t1) h opening
  client-opens (client.Accepted set) h opening = wider.opens set (64 * p.t1) h opening
  client-opens (client.Completed true request set) h opening = wider.opens set 0 h opening
  client-opens (client.Completed false request set) h opening = wider.opens set 32000 h opening
  client-opens x h opening = absurd opening

  -- a window that has not closed by the times p has not closed by the wider times q
  client-closes : (x : client.InviteClientPhase) (h : ℕ) → IfSome (client.timer_window p x) (λ w. IfSome w.1 (λ close. h ≤ close)) → IfSome (client.timer_window q x) (λ w. IfSome w.1 (λ close. h ≤ close))
  client-closes (client.Calling w) h closing = wider.closes w.start (64 * p.t1) h closing
  client-closes (client.Accepted set) h closing = wider.closes set (64 * p.t1) h closing
  client-closes (client.Completed true request set) h closing = wider.closes set 0 h closing
  -- the other phases have no window, or one that does not close
  client-closes (client.Completed false request set) h closing = tt
  client-closes (client.Proceeding reliable request None) h closing = tt
  client-closes (client.Proceeding reliable request (Some first)) h closing = tt
  client-closes client.Idle h closing = tt
  client-closes client.Ended h closing = tt

  -- what must be sent by the times p need not be sent earlier by the wider times q
  client-sends-by : (x : client.InviteClientPhase) (h : ℕ) → All (λ last. h ≤ last) (client.sends_by p x) → All (λ last. h ≤ last) (client.sends_by q x)
  client-sends-by (client.Calling w) h all = wider.repeats w.reliable w.set w.interval h all
  -- no other phase has to send
  client-sends-by client.Idle h all = all
  client-sends-by client.Ended h all = all
  client-sends-by (client.Proceeding reliable request cancel) h all = all
  client-sends-by (client.Accepted set) h all = all
  client-sends-by (client.Completed reliable request set) h all = all

  -- the INVITE client by RFC 6026 is steady: what the times p allow, the wider times q allow
  client-steady : IsSteady client.invite_client p q
  client-steady = record {
    -- the rows of received messages do not speak of times
    received = λ x k e row h. h;
    received_only = λ x k e row h. h;
    sent = client-sent;
    opens = client-opens;
    closes = client-closes;
    sends_by = client-sends-by;
  }

  -- the INVITE client by RFC 3261 alone is steady: what the times p allow, the wider times q allow
  client-3261-steady : IsSteady client_3261.invite_client_3261 p q
  client-3261-steady = record {
    -- the rows of received messages do not speak of times
    received = λ x k e row h. h;
    received_only = λ x k e row h. h;
    sent = client-sent;
    opens = client-opens;
    closes = client-closes;
    sends_by = client-sends-by;
  }

-- no row of a message that the INVITE client by RFC 6026 receives makes owed what only may be sent
client-receives-firm : (p : Times) (x : client.InviteClientPhase) (k : Kind) (e : MachineEvent) (row : client.InviteClientPhase × Change) → client.Receives p x k e row → IsFirm row.1
-- in calling, in proceeding and in completed a row owes an ACK, which must be sent, or nothing; no other phase receives
client-receives-firm p (client.Calling w) (Response code) e row (inl h) = rw h.1 tt
client-receives-firm p (client.Calling w) (Response code) e row (inr (inl h)) = rw h.1 tt
client-receives-firm p (client.Calling w) (Response code) e row (inr (inr h)) = rw h.1 tt
client-receives-firm p (client.Proceeding reliable request cancel) (Response code) e row (inl h) = rw h.1 tt
client-receives-firm p (client.Proceeding reliable request cancel) (Response code) e row (inr h) = rw h.1 tt
client-receives-firm p (client.Completed reliable request set) (Response code) e row h = rw h.1 tt
client-receives-firm p x k e row h = absurd h

-- no row of a message that the INVITE client by RFC 3261 receives makes owed what only may be sent
client-3261-receives-firm : (p : Times) (x : client.InviteClientPhase) (k : Kind) (e : MachineEvent) (row : client.InviteClientPhase × Change) → client_3261.Receives p x k e row → IsFirm row.1
-- in calling, in proceeding and in completed a row owes an ACK, which must be sent, or nothing; no other phase receives
client-3261-receives-firm p (client.Calling w) (Response code) e row (inl h) = rw h.1 tt
client-3261-receives-firm p (client.Calling w) (Response code) e row (inr (inl h)) = rw h.1 tt
client-3261-receives-firm p (client.Calling w) (Response code) e row (inr (inr h)) = rw h.1 tt
client-3261-receives-firm p (client.Proceeding reliable request cancel) (Response code) e row (inl h) = rw h.1 tt
client-3261-receives-firm p (client.Proceeding reliable request cancel) (Response code) e row (inr h) = rw h.1 tt
client-3261-receives-firm p (client.Completed reliable request set) (Response code) e row h = rw h.1 tt
client-3261-receives-firm p x k e row h = absurd h

-- no row of a message that an INVITE client sends makes owed what only may be sent
client-sends-firm : (p : Times) (x : client.InviteClientPhase) (k : Kind) (e : MachineEvent) (row : client.InviteClientPhase × Change) → client.Sends p x k e row → IsFirm row.1
-- in idle and in calling a row makes nothing owed
client-sends-firm p client.Idle (Request Invite) e row h = rw h tt
client-sends-firm p client.Idle (Request Ack) e row h = rw h tt
client-sends-firm p client.Idle (Request Cancel) e row h = rw h tt
client-sends-firm p (client.Calling w) (Request Invite) e row h = rw h.1 tt
-- a CANCEL makes nothing owed, whatever the phase
client-sends-firm p (client.Proceeding reliable request None) (Request Cancel) e row h = rw h tt
client-sends-firm p (client.Proceeding reliable request (Some first)) (Request Cancel) e row h = rw h tt
client-sends-firm p (client.Accepted set) (Request Cancel) e row h = rw h tt
client-sends-firm p (client.Completed reliable request set) (Request Cancel) e row h = rw h tt
client-sends-firm p client.Ended (Request Cancel) e row h = rw h tt
client-sends-firm p x k e row h = absurd h

-- the INVITE client by RFC 6026 owes nothing that only may be sent, so that it is sorted
client-sorted : (p : Times) → IsSorted client.invite_client p (λ es x message. ⊥)
client-sorted p = firm-sorted client.invite_client p (record { received = client-receives-firm p; sent = client-sends-firm p })

-- the INVITE client by RFC 3261 alone owes nothing that only may be sent, so that it is sorted
client-3261-sorted : (p : Times) → IsSorted client_3261.invite_client_3261 p (λ es x message. ⊥)
client-3261-sorted p = firm-sorted client_3261.invite_client_3261 p (record { received = client-3261-receives-firm p; sent = client-sends-firm p })

-- the INVITE client by RFC 6026 shows that a wider tolerance keeps its runs: it owes nothing that only may be sent
pub invite_client_keeps_runs : KeepsRuns client.invite_client
invite_client_keeps_runs = record { May = λ p es x message. ⊥; steady = client-steady; sorted = client-sorted }

-- the INVITE client by RFC 3261 alone shows that a wider tolerance keeps its runs: it owes nothing that only may be sent
pub invite_client_3261_keeps_runs : KeepsRuns client_3261.invite_client_3261
invite_client_3261_keeps_runs = record { May = λ p es x message. ⊥; steady = client-3261-steady; sorted = client-3261-sorted }
