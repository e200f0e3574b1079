-- A client sends its request once: after it the client is never idle again, and a restart ends it.
-- In the lemmas x is the phase or the state before a step and y what follows it, k is the kind of a message, and m a moment.
-- In cases of `Emits` a message that is sent has a row (`row`, `is_row`, `to`), or pays a debt (`left`, `pays`), or changes nothing (`stays`,
-- `same`), which only the INVITE server by RFC 3261 alone lets it (Stays). In cases of `Steps` a message that is received has a row, or has none and
-- changes nothing (`none`, `same`), and a restart leaves idle as it is (`idle`) and ends any other phase (`other`).
-- `Unit {0}` holds anyway, by `tt`.
use Rattle.std.proofs.Common.{◌≡◌, ◌⊎◌, inl, inr, ℕ, Bool, true, false, Some, List, ◌∷◌, ◌++◌, refl, sym, subst, ◌∙◌}
use Rattle.sip_standard.specs.declared.action.Action.{Action}
use Rattle.sip_standard.specs.declared.action.Action.TheVariants.{Sent, Received, Failed, Mark, Restart}
use Rattle.sip_standard.specs.declared.kind.Method.{Method}
use Rattle.sip_standard.specs.declared.kind.Method.TheVariants.{Invite, Ack, Cancel}
use Rattle.sip_standard.specs.declared.kind.Kind.{Kind}
use Rattle.sip_standard.specs.declared.kind.Kind.TheVariants.{Request, Response}
use Rattle.sip_standard.specs.Times.{Times}
use Rattle.sip_standard.specs.MachineEvent.{MachineEvent}
use Rattle.sip_standard.specs.Figure.{Figure, Change, keeps, Owing, quiet, Emits, Fails, Steps, Takes}
use Rattle.sip_standard.specs.InviteClient as invite
use Rattle.sip_standard.specs.PlainClient as plain
use Rattle.sip_standard.specs.Stands.{Stands, StandsAfter}
use Rattle.consequences.specs.Events.{IsRestart}
use Rattle.consequences.proofs.lemmas.server.Asleep.{nothing-to-pay}
use Rattle.consequences.proofs.lemmas.client.InviteClients.{Row, Receiving, client, IsDone, Answers, IsReceiving, pays-nothing, sends-idle, sends-calling, sends-proceeding, sends-accepted, sends-completed, sends-ended}
use Rattle.consequences.proofs.lemmas.run.Running.{IsKept, left_at, step-of, stands-run, Cut, cut, run-keeps}

-- a client of which HasAsked says whether a phase comes after its request: no row leads back before it; the ended phase receives nothing, sends only
-- what MaySend allows, and stays
pub record IsOnce {X : Type 0} (f : Figure X) (p : Times) (HasAsked : X → Type 0) (IsRequest MaySend : Kind → Type 0) : Type 0 where
  -- idle comes before the request, and ended after it
  pub idle : ¬ (HasAsked f.idle)
  pub ended : HasAsked f.ended
  -- no row y of a message that is received or sent leads from a phase x after the request to one before it
  pub received : (x : X) (k : Kind) (e : MachineEvent) (y : X × Change) → HasAsked x → f.Receives p x k e y → HasAsked y.0
  pub sent : (x : X) (k : Kind) (e : MachineEvent) (y : X × Change) → HasAsked x → f.Sends p x k e y → HasAsked y.0
  -- whoever sends the request e comes to a state y after it
  pub asks : (e : MachineEvent) (x y : Owing X) → IsRequest e.kind → Emits f p e x y → HasAsked y.phase
  -- the ended phase receives nothing; what it sends is of a kind of MaySend, and the row leaves the phase and the debts as they are
  pub none_received : (k : Kind) (e : MachineEvent) (y : X × Change) → ¬ (f.Receives p f.ended k e y)
  pub over : (k : Kind) (e : MachineEvent) (y : X × Change) → f.Sends p f.ended k e y → MaySend k × (y ≡ (f.ended, keeps))
  -- nothing can be sent that changes nothing
  pub unmoved : (x : X) (k : Kind) → ¬ (f.Stays x k)

-- What follows is of a client that sends its request once, with the figure f and the times p: HasAsked holds of the phases in which it has sent it,
-- IsRequest of the kinds of its requests, and MaySend of the kinds that it may send after the request.
module _ {X : Type 0} (f : Figure X) (p : Times) (HasAsked : X → Type 0) (IsRequest MaySend : Kind → Type 0) (once : IsOnce f p HasAsked IsRequest MaySend) where
  -- a message that is sent leads from a phase after the request to a phase after the request
  emits : (e : MachineEvent) (x y : Owing X) → HasAsked x.phase → Emits f p e x y → HasAsked y.phase
  emits e x y asked (inl (row, is_row, to)) = rw to (once.sent x.phase e.kind e row asked is_row)
  emits e x y asked (inr (inl (left, pays, to))) = rw to asked
  emits e x y asked (inr (inr (stays, same))) = rw same asked

  -- a message that the transport refused leads from a phase after the request to a phase after the request
  fails : (ends : Bool) (e : MachineEvent) (x y : Owing X) → HasAsked x.phase → Fails ends f p e x y → HasAsked y.phase
  fails true e x y asked h = rw h.1 once.ended
  fails false e x y asked h = emits e x y asked h

  -- a step leads from a phase after the request to a phase after the request
  steps : (a : Action) (e : MachineEvent) (x y : Owing X) → HasAsked x.phase → Steps f p a e x y → HasAsked y.phase
  -- a received message leads along a row, or leaves the phase as it is; what is sent or refused leads along a row as well
  steps Received e x y asked (inl (row, is_row, to)) = rw to (once.received x.phase e.kind e row asked is_row)
  steps Received e x y asked (inr (none, same)) = rw same asked
  steps Sent e x y asked h = emits e x y asked h
  steps Failed e x y asked h = fails (f.ends_refused x.phase e.kind) e x y asked h
  -- a mark is no step; a restart would leave idle alone as it is, and ends what is not idle
  steps Mark e x y asked h = absurd h
  steps Restart e x y asked (inl (idle, to)) = absurd (once.idle (subst HasAsked idle asked))
  steps Restart e x y asked (inr (other, to)) = rw to once.ended

  -- where a run was in a phase after the request, it stays in such phases
  asked-kept : IsKept f p (λ es m y. HasAsked y.phase)
  asked-kept = record {
    as_it_waits = λ es h m x asked low lasts. asked;
    as_it_ends = λ es h x asked may. once.ended;
    as_it_takes = λ es e x y asked take. steps e.action e (record { phase = x.phase; owes = left_at e x }) y asked take;
  }

  -- what is sent in the ended phase is what MaySend allows, and the client stays there
  pub over-emits : (e : MachineEvent) (y : Owing X) → Emits f p e (quiet f.ended) y → MaySend e.kind × (y ≡ quiet f.ended)
  over-emits e y (inl (row, is_row, to)) = let sends = once.over e.kind e row is_row in (sends.0, rw (to, sends.1))
  over-emits e y (inr (inl (left, pays, to))) = absurd (nothing-to-pay _ left pays)
  over-emits e y (inr (inr (stays, same))) = absurd (once.unmoved f.ended e.kind stays)

  -- the client stays in the ended phase where the transport refuses a message
  over-fails : (ends : Bool) (e : MachineEvent) (y : Owing X) → Fails ends f p e (quiet f.ended) y → y ≡ quiet f.ended
  over-fails true e y h = h.1
  over-fails false e y h = (over-emits e y h).1

  -- no step leads away from the end
  pub over-steps : (a : Action) (e : MachineEvent) (y : Owing X) → Steps f p a e (quiet f.ended) y → y ≡ quiet f.ended
  -- the ended phase receives nothing; what is sent or refused from it leaves it
  over-steps Received e y (inl (row, is_row, to)) = absurd (once.none_received e.kind e row is_row)
  over-steps Received e y (inr (none, same)) = same
  over-steps Sent e y h = (over-emits e y h).1
  over-steps Failed e y h = over-fails (f.ends_refused f.ended e.kind) e y h
  -- a mark is no step, and a restart leaves the end as it is
  over-steps Mark e y h = absurd h
  over-steps Restart e y (inl (idle, to)) = absurd (once.idle (subst HasAsked idle once.ended))
  over-steps Restart e y (inr (other, to)) = to

  -- where a run was in the ended phase without debts, it stays there
  over-kept : IsKept f p (λ es m y. y ≡ quiet f.ended)
  over-kept = record {
    as_it_waits = λ es h m x over low lasts. over;
    as_it_ends = λ es h x over may. refl;
    as_it_takes = λ es e x y over take. over-steps e.action e y (subst (λ z. Takes f p z e y) over take);
  }

  -- after the request and then a restart, a run stands in the ended phase
  pub restart-ends : (before between after : List MachineEvent) (request restart : MachineEvent) (m : ℕ) (y : Owing X) → request.action ≡ Sent → IsRequest request.kind → IsRestart restart →
      Stands f p (before ++ request ∷ (between ++ restart ∷ after)) m y → y ≡ quiet f.ended
  restart-ends before between after request restart m y sent asks restarts stands =
      by-request (cut f p (quiet f.idle) 0 before request (between ++ restart ∷ after) m y (stands-run f p (before ++ request ∷ (between ++ restart ∷ after)) m y stands))
    where
      -- a restart ends a client that has asked, and it stays ended
      by-restart : (x : Owing X) → HasAsked x.phase → Cut f p x request.moment between restart after m y → y ≡ quiet f.ended
      by-restart x asked found =
          let still = run-keeps f p (λ es h z. HasAsked z.phase) asked-kept between x request.moment restart.moment found.from asked found.leads in
          run-keeps f p (λ es h z. z ≡ quiet f.ended) over-kept after found.to restart.moment m y (by-step still (step-of f p Restart restart found.from found.to restarts found.step)) found.goes
        where
          -- the restart leaves idle as it is, and ends any other phase; the phase is not idle, since the request was sent
          by-step : HasAsked found.from.phase → ((found.from.phase ≡ f.idle) × (found.to ≡ quiet f.idle)) ⊎ (¬ (found.from.phase ≡ f.idle) × (found.to ≡ quiet f.ended)) → found.to ≡ quiet f.ended
          by-step still (inl (idle, to)) = absurd (once.idle (subst HasAsked idle still))
          by-step still (inr (other, to)) = to

      -- the run is cut at the request
      by-request : Cut f p (quiet f.idle) 0 before request (between ++ restart ∷ after) m y → y ≡ quiet f.ended
      by-request found =
          by-restart found.to (once.asks request (record { phase = found.from.phase; owes = left_at request found.from }) found.to asks (step-of f p Sent request found.from found.to sent found.step))
          (cut f p found.to request.moment between restart after m y found.goes)

  -- after its request and a restart a client sends only what MaySend allows
  pub restart-silences : (before between after : List MachineEvent) (request restart e : MachineEvent) (y : Owing X) → request.action ≡ Sent → IsRequest request.kind → IsRestart restart →
      e.action ≡ Sent → StandsAfter f p (before ++ request ∷ (between ++ restart ∷ after)) e y → MaySend e.kind
  restart-silences before between after request restart e y sent asks restarts is_sent (x, stands, take) =
      let over = restart-ends before between after request restart e.moment x sent asks restarts stands in
      (over-emits e y (step-of f p Sent e (quiet f.ended) y is_sent (subst (λ z. Takes f p z e y) over take))).0

-- What follows is of the INVITE clients.

-- the INVITE was sent: the phase is not idle
abbrev pub IsInvited : invite.InviteClientPhase → Type 0
IsInvited invite.Idle = ⊥
IsInvited x = Unit {0}

-- What follows shows that both INVITE clients send their INVITE once: R are the rows of one for responses, and p its times.
module _ (R : Receiving) (is : IsReceiving R) (p : Times) where
  -- a phase that is done is one after the INVITE
  done-invited : (x : invite.InviteClientPhase) → IsDone x → IsInvited x
  done-invited invite.Ended done = tt
  done-invited (invite.Accepted set) done = tt
  done-invited x done = absurd done

  -- the row of a response leads to a phase after the INVITE
  -- a provisional response leads to proceeding, a 2xx to a phase that is done, and a 300 to 699 to completed
  answers-invited : (reliable : Bool) (request : List ℕ) (k : Kind) (e : MachineEvent) (row : Row) → Answers reliable request k e row → IsInvited row.0
  answers-invited reliable request k e row (code, kind, inl h) = rw h.1 tt
  answers-invited reliable request k e row (code, kind, inr (inl h)) = done-invited row.0 h.1
  answers-invited reliable request k e row (code, kind, inr (inr h)) = rw h.1 tt

  -- the row of a received message leads from a phase after the INVITE to a phase after the INVITE
  received : (x : invite.InviteClientPhase) (k : Kind) (e : MachineEvent) (row : Row) → IsInvited x → R p x k e row → IsInvited row.0
  -- no message has a row in idle, in ended and in accepted; elsewhere it is one of `answers-invited`, or an ACK is owed in completed
  received invite.Idle k e row asked h = absurd asked
  received invite.Ended k e row asked h = absurd (is.ended p k e row h)
  received (invite.Accepted set) k e row asked h = absurd (is.accepted p set k e row h)
  received (invite.Calling w) k e row asked h = answers-invited w.reliable w.request k e row (is.calling p w k e row h)
  received (invite.Proceeding reliable request cancel) k e row asked h = answers-invited reliable request k e row (is.proceeding p reliable request cancel k e row h)
  received (invite.Completed reliable request set) k e row asked h = rw (is.completed p reliable request set k e row h).3 tt

  -- the row of a sent message leads from a phase after the INVITE to a phase after the INVITE
  sent : (x : invite.InviteClientPhase) (k : Kind) (e : MachineEvent) (row : Row) → IsInvited x → invite.Sends p x k e row → IsInvited row.0
  sent invite.Idle k e row asked h = absurd asked
  sent (invite.Calling w) k e row asked h = rw (sends-calling p w k e row h).2 tt
  sent (invite.Proceeding reliable request cancel) k e row asked h = by (sends-proceeding p reliable request cancel k e row h).1
    where
      -- after either row the INVITE has been sent
      by : (row ≡ (invite.Proceeding reliable request (Some e.moment), keeps)) ⊎ (row ≡ (invite.Proceeding reliable request cancel, keeps)) → IsInvited row.0
      by (inl leads) = rw leads tt
      by (inr leads) = rw leads tt
  -- accepted, completed and ended stay as they are
  sent (invite.Accepted set) k e row asked h = rw (sends-accepted p set k e row h).1 tt
  sent (invite.Completed reliable request set) k e row asked h = rw (sends-completed p reliable request set k e row h).1 tt
  sent invite.Ended k e row asked h = rw (sends-ended p k e row h).1 tt

  -- the row of an INVITE that is sent leads to a phase after the INVITE
  sent-invite : (x : invite.InviteClientPhase) (k : Kind) (e : MachineEvent) (row : Row) → k ≡ Request Invite → invite.Sends p x k e row → IsInvited row.0
  sent-invite invite.Idle k e row asks h = by (sends-idle p k e row h)
    where
      -- the row leads to a phase after the INVITE: in idle the message is the INVITE, so the row leads to calling
      by : ((k ≡ Request Invite) × (row ≡ (invite.Calling (record { reliable = e.reliable; request = e.text; start = e.moment; set = e.moment; interval = p.t1 }), keeps)))
          ⊎ (¬ (k ≡ Request Invite) × (row ≡ (invite.Idle, keeps))) → IsInvited row.0
      by (inl leads) = rw leads.1 tt
      by (inr leads) = absurd (leads.0 asks)
  -- in any other phase the INVITE was sent before, and after each sent message the phase is still one of these
  sent-invite (invite.Calling w) k e row asks h = sent (invite.Calling w) k e row tt h
  sent-invite (invite.Proceeding reliable request cancel) k e row asks h = sent (invite.Proceeding reliable request cancel) k e row tt h
  sent-invite (invite.Accepted set) k e row asks h = sent (invite.Accepted set) k e row tt h
  sent-invite (invite.Completed reliable request set) k e row asks h = sent (invite.Completed reliable request set) k e row tt h
  sent-invite invite.Ended k e row asks h = sent invite.Ended k e row tt h

  -- an INVITE is no ACK
  no-ack : ¬ (Request Invite ≡ Request Ack)
  no-ack same = cc

  -- an INVITE that is sent leads to a phase after the INVITE
  asks : (e : MachineEvent) (x y : Owing invite.InviteClientPhase) → e.kind ≡ Request Invite → Emits (client R) p e x y → IsInvited y.phase
  asks e x y invites (inl (row, is_row, to)) = rw to (sent-invite x.phase e.kind e row invites is_row)
  asks e x y invites (inr (inl (left, pays, to))) = absurd (no-ack (sym invites ∙ (pays-nothing x.phase e.kind e pays.first.message pays.holds.0).4))
  asks e x y invites (inr (inr (stays, same))) = absurd stays

  -- an INVITE client sends its INVITE once, and after the end CANCEL alone
  pub invites-once : IsOnce (client R) p IsInvited (λ k. k ≡ Request Invite) (λ k. k ≡ Request Cancel)
  invites-once = record { idle = λ h. h; ended = tt; received = received; sent = sent; asks = asks; none_received = is.ended p; over = sends-ended p; unmoved = λ x k h. h }

-- What follows is of the client of any other method.

-- the request was sent: the phase is not idle
abbrev pub IsAsked : plain.PlainClientPhase → Type 0
IsAsked plain.Idle = ⊥
IsAsked x = Unit {0}

-- a request, whatever its method
abbrev pub IsAnyRequest : Kind → Type 0
IsAnyRequest k = (method : Method) × (k ≡ Request method)

-- the row of a received message leads from a phase after the request to a phase after the request
-- a response leads to proceeding or to completed, which come after the request
plain-received : (p : Times) (x : plain.PlainClientPhase) (k : Kind) (e : MachineEvent) (row : plain.PlainClientPhase × Change) → IsAsked x → plain.Receives p x k e row → IsAsked row.0
plain-received p (plain.Trying w) (Response code) e row asked (inl h) = rw h.1 tt
plain-received p (plain.Trying w) (Response code) e row asked (inr h) = rw h.1 tt
plain-received p (plain.Proceeding w) (Response code) e row asked h = rw h.1 tt
plain-received p x k e row asked h = absurd h

-- the row of a sent message leads to a phase after the request
-- the request leads to trying, and a repeat leaves the phase as it is
plain-sent : (p : Times) (x : plain.PlainClientPhase) (k : Kind) (e : MachineEvent) (row : plain.PlainClientPhase × Change) → plain.Sends p x k e row → IsAsked row.0
plain-sent p plain.Idle (Request method) e row h = rw h tt
plain-sent p (plain.Trying w) (Request method) e row h = rw h.1 tt
plain-sent p (plain.Proceeding w) (Request method) e row h = rw h.1 tt
plain-sent p x k e row h = absurd h

-- a message that is sent leads to a phase after the request
plain-asks : (p : Times) (e : MachineEvent) (x y : Owing plain.PlainClientPhase) → Emits plain.plain_client p e x y → IsAsked y.phase
plain-asks p e x y (inl (row, is_row, to)) = rw to (plain-sent p x.phase e.kind e row is_row)
plain-asks p e x y (inr (inl (left, pays, to))) = absurd pays.holds.0
plain-asks p e x y (inr (inr (stays, same))) = absurd stays

-- a client of any other method sends its request once, and nothing after the end
pub asks-once : (p : Times) → IsOnce plain.plain_client p IsAsked IsAnyRequest (λ k. ⊥)
asks-once p = record {
  idle = λ h. h;
  ended = tt;
  -- where the request was sent, each row of a received or sent message leads to a phase after it; and the row of a request that is sent does
  received = plain-received p;
  sent = λ x k e row asked h. plain-sent p x k e row h;
  asks = λ e x y asks h. plain-asks p e x y h;
  none_received = λ k e row h. h;
  over = λ k e row h. absurd h;
  unmoved = λ x k h. h;
}
