-- The non-INVITE client by a wider tolerance: its rows stay, its windows open earlier and close later, and all that it owes must be sent.
-- In the lemmas x is a phase, k the kind of a message, and h a moment or what is known of a row.
use Rattle.std.proofs.Common.{◌≤◌, ◌*◌, ℕ, IsSomeAnd, IfSome, All, if◌then◌else◌, inl, inr}
use Rattle.sip_standard.specs.declared.kind.Kind.{Kind}
use Rattle.sip_standard.specs.declared.kind.Kind.TheVariants.{Request, Response}
use Rattle.sip_standard.specs.Times.{Times}
use Rattle.sip_standard.specs.MachineEvent.{MachineEvent}
use Rattle.sip_standard.specs.Figure.{Change}
use Rattle.sip_standard.specs.PlainClient as plain
use Rattle.consequences.specs.Tolerance.{tolerant}
use Rattle.consequences.proofs.lemmas.tolerance.Moments.{IsMoreTolerant}
use Rattle.consequences.proofs.lemmas.tolerance.Sorted.{IsFirm, firm-sorted}
use Rattle.consequences.proofs.lemmas.tolerance.Wider.{IsSteady, IsSorted, KeepsRuns}

-- What follows is of the times p, and of q, the same with a wider tolerance: `early` and `late` are how early and how late an element may act by q.
module _ (p : Times) (early late : ℕ) (wider : IsMoreTolerant p (tolerant early late p)) where
  -- the times with the wider tolerance
  abbrev q : Times
  q = tolerant early late p

  -- a row of a message that is sent by the times p is one by the wider times q
  -- only the rows of a repeat, by timer E, depend on the tolerance
  plain-sent : (x : plain.PlainClientPhase) (k : Kind) (e : MachineEvent) (row : plain.PlainClientPhase × Change) → plain.Sends p x k e row → plain.Sends q x k e row
  plain-sent plain.Idle (Request method) e row h = h
  plain-sent (plain.Trying w) (Request method) e row h = (wider.retransmits w.reliable w.request w.set w.interval e h.0, h.1)
  plain-sent (plain.Proceeding w) (Request method) e row h = (wider.retransmits w.reliable w.request w.set w.interval e h.0, h.1)
  plain-sent x k e row h = absurd h

  -- a window that has opened by the times p has opened by the wider times q
  -- each timer that p lets fire q lets fire: F and K; other phases have no window
  plain-opens : (x : plain.PlainClientPhase) (h : ℕ) → IsSomeAnd (plain.timer_window p x) (λ w. w.0 ≤ h) → IsSomeAnd (plain.timer_window q x) (λ w. w.0 ≤ h)
  plain-opens (plain.Trying w) h opening = wider.opens w.start (64 * p.t1) h opening
  plain-opens (plain.Proceeding w) h opening = wider.opens w.start (64 * p.t1) h opening
  plain-opens (plain.Completed reliable set) h opening = wider.opens set (if reliable then 0 else p.t4) h opening
  plain-opens x h opening = absurd opening

  -- a window that has not closed by the times p has not closed by the wider times q
  plain-closes : (x : plain.PlainClientPhase) (h : ℕ) → IfSome (plain.timer_window p x) (λ w. IfSome w.1 (λ close. h ≤ close)) → IfSome (plain.timer_window q x) (λ w. IfSome w.1 (λ close. h ≤ close))
  plain-closes (plain.Trying w) h closing = wider.closes w.start (64 * p.t1) h closing
  plain-closes (plain.Proceeding w) h closing = wider.closes w.start (64 * p.t1) h closing
  plain-closes (plain.Completed reliable set) h closing = wider.closes set (if reliable then 0 else p.t4) h closing
  -- the other phases have no window
  plain-closes plain.Idle h closing = tt
  plain-closes plain.Ended h closing = tt

  -- what must be sent by the times p need not be sent earlier by the wider times q
  plain-sends-by : (x : plain.PlainClientPhase) (h : ℕ) → All (λ last. h ≤ last) (plain.sends_by p x) → All (λ last. h ≤ last) (plain.sends_by q x)
  plain-sends-by (plain.Trying w) h all = wider.repeats w.reliable w.set w.interval h all
  plain-sends-by (plain.Proceeding w) h all = wider.repeats w.reliable w.set w.interval h all
  -- no other phase has to send
  plain-sends-by plain.Idle h all = all
  plain-sends-by plain.Ended h all = all
  plain-sends-by (plain.Completed reliable set) h all = all

  -- the non-INVITE client is steady: what the times p allow, the wider times q allow
  plain-client-steady : IsSteady plain.plain_client p q
  plain-client-steady = record {
    -- the rows of received messages do not speak of times
    received = λ x k e row h. h;
    received_only = λ x k e row h. h;
    sent = plain-sent;
    opens = plain-opens;
    closes = plain-closes;
    sends_by = plain-sends-by;
  }

-- no row of a message that the non-INVITE client receives makes owed what only may be sent: none makes anything owed
plain-receives-firm : (p : Times) (x : plain.PlainClientPhase) (k : Kind) (e : MachineEvent) (row : plain.PlainClientPhase × Change) → plain.Receives p x k e row → IsFirm row.1
plain-receives-firm p (plain.Trying w) (Response code) e row (inl h) = rw h.1 tt
plain-receives-firm p (plain.Trying w) (Response code) e row (inr h) = rw h.1 tt
plain-receives-firm p (plain.Proceeding w) (Response code) e row h = rw h.1 tt
plain-receives-firm p x k e row h = absurd h

-- no row of a message that the non-INVITE client sends makes owed what only may be sent: none makes anything owed
plain-sends-firm : (p : Times) (x : plain.PlainClientPhase) (k : Kind) (e : MachineEvent) (row : plain.PlainClientPhase × Change) → plain.Sends p x k e row → IsFirm row.1
plain-sends-firm p plain.Idle (Request method) e row h = rw h tt
plain-sends-firm p (plain.Trying w) (Request method) e row h = rw h.1 tt
plain-sends-firm p (plain.Proceeding w) (Request method) e row h = rw h.1 tt
plain-sends-firm p x k e row h = absurd h

-- the non-INVITE client owes nothing that only may be sent, so that it is sorted
plain-client-sorted : (p : Times) → IsSorted plain.plain_client p (λ es x message. ⊥)
plain-client-sorted p = firm-sorted plain.plain_client p (record { received = plain-receives-firm p; sent = plain-sends-firm p })

-- the non-INVITE client shows that a wider tolerance keeps its runs: it owes nothing that only may be sent
pub plain_client_keeps_runs : KeepsRuns plain.plain_client
plain_client_keeps_runs = record { May = λ p es x message. ⊥; steady = plain-client-steady; sorted = plain-client-sorted }
