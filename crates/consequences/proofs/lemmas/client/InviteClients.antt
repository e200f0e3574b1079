-- Both INVITE clients: they send by the same rows, and differ only in where a received 2xx leads.
-- In the lemmas k is the kind of the message of the event e, and y is where its row leads.
-- `Unit {0}` holds anyway, by `tt`.
use Rattle.std.proofs.Common.{◌≡◌, ◌*◌, ◌⊎◌, inl, inr, ℕ, Bool, true, Option, Some, None, List, refl}
use Rattle.sip_standard.specs.AckOf.{AckOf}
use Rattle.sip_standard.specs.declared.kind.Method.TheVariants.{Invite, Ack, Cancel}
use Rattle.sip_standard.specs.declared.kind.Kind.{Kind}
use Rattle.sip_standard.specs.declared.kind.Kind.TheVariants.{Request, Response}
use Rattle.sip_standard.specs.Times.{Times}
use Rattle.sip_standard.specs.MachineEvent.{MachineEvent}
use Rattle.sip_standard.specs.Retransmits.{Retransmits}
use Rattle.sip_standard.specs.Waiting.{Waiting}
use Rattle.sip_standard.specs.Kind.{IsProvisional, IsSuccess, IsUnsuccessful}
use Rattle.sip_standard.specs.Figure.{Figure, Change, keeps, gains}
use Rattle.sip_standard.specs.InviteClient.{InviteClientPhase, Idle, Ended, Calling, Proceeding, Accepted, Completed, Receives, Sends, Satisfies, invite_client}
use Rattle.sip_standard.specs.InviteClient3261 as without

-- what a row leads to: a phase, and what becomes of the debts
abbrev pub Row : Type 0
Row = InviteClientPhase × Change

-- the rows of received messages of an INVITE client
abbrev pub Receiving : Type 1
Receiving = Times → InviteClientPhase → Kind → MachineEvent → Row → Type 0

-- the INVITE client that receives by these rows
abbrev pub client : Receiving → Figure InviteClientPhase
client R = record invite_client { Receives = R }

-- the phase is the ended one, or the one in which a client waits after a 2xx
abbrev pub IsDone : InviteClientPhase → Type 0
IsDone Ended = Unit {0}
IsDone (Accepted set) = Unit {0}
IsDone x = ⊥

-- the row of a response leads from a phase that waits for one to proceeding, to one that is done, or to completed with one debt more
abbrev pub Answers : Bool → List ℕ → Kind → MachineEvent → Row → Type 0
Answers reliable request k e y =
    (code : ℕ) × (k ≡ Response code)
    × ((IsProvisional code × (y ≡ (Proceeding reliable request None, keeps))) ⊎ (IsSuccess code × IsDone y.0)
    ⊎ (IsUnsuccessful code × (y ≡ (Completed reliable request e.moment, gains true e.text))))

-- what holds of the rows of both clients
pub record IsReceiving (R : Receiving) : Type 0 where
  -- in idle, in ended and in accepted no row receives a message of any kind k
  pub idle : (p : Times) (k : Kind) (e : MachineEvent) (y : Row) → ¬ (R p Idle k e y)
  pub ended : (p : Times) (k : Kind) (e : MachineEvent) (y : Row) → ¬ (R p Ended k e y)
  pub accepted : (p : Times) (set : ℕ) (k : Kind) (e : MachineEvent) (y : Row) → ¬ (R p (Accepted set) k e y)
  -- in calling, whose data is w, and in proceeding, the row y of a message is one of `Answers`: what a client does at a response
  pub calling : (p : Times) (w : Waiting) (k : Kind) (e : MachineEvent) (y : Row) → R p (Calling w) k e y → Answers w.reliable w.request k e y
  pub proceeding : (p : Times) (reliable : Bool) (request : List ℕ) (cancel : Option ℕ) (k : Kind) (e : MachineEvent) (y : Row) → R p (Proceeding reliable request cancel) k e y →
      Answers reliable request k e y
  -- in completed the row is that of a response of 300 to 699: the client stays in completed, and owes an ACK of this response
  pub completed : (p : Times) (reliable : Bool) (request : List ℕ) (set : ℕ) (k : Kind) (e : MachineEvent) (y : Row) → R p (Completed reliable request set) k e y →
      (code : ℕ) × (k ≡ Response code) × IsUnsuccessful code × (y ≡ (Completed reliable request set, gains true e.text))
  -- a provisional response has a row in calling
  pub takes_provisional : (p : Times) (w : Waiting) (code : ℕ) (e : MachineEvent) → IsProvisional code → R p (Calling w) (Response code) e (Proceeding w.reliable w.request None, keeps)
  -- a 300 to 699 has a row in calling, in proceeding and in completed
  pub takes_calling : (p : Times) (w : Waiting) (code : ℕ) (e : MachineEvent) → IsUnsuccessful code → R p (Calling w) (Response code) e (Completed w.reliable w.request e.moment, gains true e.text)
  pub takes_proceeding : (p : Times) (reliable : Bool) (request : List ℕ) (cancel : Option ℕ) (code : ℕ) (e : MachineEvent) → IsUnsuccessful code →
      R p (Proceeding reliable request cancel) (Response code) e (Completed reliable request e.moment, gains true e.text)
  pub takes_completed : (p : Times) (reliable : Bool) (request : List ℕ) (set : ℕ) (code : ℕ) (e : MachineEvent) → IsUnsuccessful code →
      R p (Completed reliable request set) (Response code) e (Completed reliable request set, gains true e.text)

-- by RFC 6026 a row in calling is one of a response, and leads where `Answers` says
-- w is the data of calling, k the kind of the message e, and y the row
-- the response is provisional, a 2xx, or one of 300 to 699: one case for each; no request has a row
calling_6026 : (p : Times) (w : Waiting) (k : Kind) (e : MachineEvent) (y : Row) → Receives p (Calling w) k e y → Answers w.reliable w.request k e y
calling_6026 p w (Response code) e y (inl h) = (code, refl, inl h)
calling_6026 p w (Response code) e y (inr (inl h)) = (code, refl, inr (inl (h.0, rw h.1 tt)))
calling_6026 p w (Response code) e y (inr (inr h)) = (code, refl, inr (inr h))
calling_6026 p w k e y h = absurd h

-- by RFC 6026 a row in proceeding is one of a response, and leads where `Answers` says
proceeding_6026 : (p : Times) (reliable : Bool) (request : List ℕ) (cancel : Option ℕ) (k : Kind) (e : MachineEvent) (y : Row) → Receives p (Proceeding reliable request cancel) k e y →
    Answers reliable request k e y
proceeding_6026 p reliable request cancel (Response code) e y (inl h) = (code, refl, inr (inl (h.0, rw h.1 tt)))
proceeding_6026 p reliable request cancel (Response code) e y (inr h) = (code, refl, inr (inr h))
proceeding_6026 p reliable request cancel k e y h = absurd h

-- by RFC 6026 a row in completed is one of a 300 to 699, for which it owes an ACK
completed_6026 : (p : Times) (reliable : Bool) (request : List ℕ) (set : ℕ) (k : Kind) (e : MachineEvent) (y : Row) → Receives p (Completed reliable request set) k e y →
    (code : ℕ) × (k ≡ Response code) × IsUnsuccessful code × (y ≡ (Completed reliable request set, gains true e.text))
completed_6026 p reliable request set (Response code) e y h = (code, refl, h.0, h.1)
completed_6026 p reliable request set k e y h = absurd h

-- what IsReceiving asks holds of the rows of RFC 6026
pub receives_6026 : IsReceiving Receives
receives_6026 = record {
  idle = λ p k e y h. h;
  ended = λ p k e y h. h;
  accepted = λ p set k e y h. h;
  -- in calling, in proceeding and in completed each row is one of the table
  calling = calling_6026;
  proceeding = proceeding_6026;
  completed = completed_6026;
  takes_provisional = λ p w code e h. inl (h, refl);
  -- a response of 300 to 699 has a row in each of the three
  takes_calling = λ p w code e h. inr (inr (h, refl));
  takes_proceeding = λ p reliable request cancel code e h. inr (h, refl);
  takes_completed = λ p reliable request set code e h. (h, refl);
}

-- by RFC 3261 alone a row in calling is one of a response, and leads where `Answers` says
-- w is the data of calling, k the kind of the message e, and y the row
-- the response is provisional, a 2xx, or one of 300 to 699: one case for each; no request has a row
calling_3261 : (p : Times) (w : Waiting) (k : Kind) (e : MachineEvent) (y : Row) → without.Receives p (Calling w) k e y → Answers w.reliable w.request k e y
calling_3261 p w (Response code) e y (inl h) = (code, refl, inl h)
calling_3261 p w (Response code) e y (inr (inl h)) = (code, refl, inr (inl (h.0, rw h.1 tt)))
calling_3261 p w (Response code) e y (inr (inr h)) = (code, refl, inr (inr h))
calling_3261 p w k e y h = absurd h

-- by RFC 3261 alone a row in proceeding is one of a response, and leads where `Answers` says
proceeding_3261 : (p : Times) (reliable : Bool) (request : List ℕ) (cancel : Option ℕ) (k : Kind) (e : MachineEvent) (y : Row) → without.Receives p (Proceeding reliable request cancel) k e y →
    Answers reliable request k e y
proceeding_3261 p reliable request cancel (Response code) e y (inl h) = (code, refl, inr (inl (h.0, rw h.1 tt)))
proceeding_3261 p reliable request cancel (Response code) e y (inr h) = (code, refl, inr (inr h))
proceeding_3261 p reliable request cancel k e y h = absurd h

-- what IsReceiving asks holds of the rows of RFC 3261 alone
pub receives_3261 : IsReceiving without.Receives
receives_3261 = record {
  idle = λ p k e y h. h;
  ended = λ p k e y h. h;
  accepted = λ p set k e y h. h;
  -- in calling, in proceeding and in completed each row is one of the table
  calling = calling_3261;
  proceeding = proceeding_3261;
  completed = completed_6026;
  takes_provisional = λ p w code e h. inl (h, refl);
  -- a response of 300 to 699 has a row in each of the three
  takes_calling = λ p w code e h. inr (inr (h, refl));
  takes_proceeding = λ p reliable request cancel code e h. inr (h, refl);
  takes_completed = λ p reliable request set code e h. (h, refl);
}

-- What follows is of messages that are sent.

-- a message that pays a debt is the ACK of the response for which it is owed, and the phase is completed
pub pays-nothing : (x : InviteClientPhase) (k : Kind) (e : MachineEvent) (message : List ℕ) → Satisfies x k e message → (reliable : Bool) × (request : List ℕ) × (set : ℕ) × (x ≡ Completed reliable request set) × (k ≡ Request Ack) × AckOf e.text request message
pays-nothing (Completed reliable request set) (Request Ack) e message h = (reliable, request, set, refl, refl, h)
pays-nothing x k e message h = absurd h

-- in completed only the ACK of a response pays the debt of it
pub pays-completed : (reliable : Bool) (request : List ℕ) (set : ℕ) (k : Kind) (e : MachineEvent) (message : List ℕ) → Satisfies (Completed reliable request set) k e message → (k ≡ Request Ack) × AckOf e.text request message
pays-completed reliable request set (Request Ack) e message h = (refl, h)
pays-completed reliable request set k e message h = absurd h

-- from idle an INVITE leads to calling, and any other row stays in idle
pub sends-idle : (p : Times) (k : Kind) (e : MachineEvent) (y : Row) → Sends p Idle k e y →
    ((k ≡ Request Invite) × (y ≡ (Calling (record { reliable = e.reliable; request = e.text; start = e.moment; set = e.moment; interval = p.t1 }), keeps)))
    ⊎ (¬ (k ≡ Request Invite) × (y ≡ (Idle, keeps)))
-- of an INVITE the row is that of calling, of an ACK and a CANCEL it stays in idle, and nothing else has one
sends-idle p (Request Invite) e y h = inl (refl, h)
sends-idle p (Request Ack) e y h = inr (λ is. cc, h)
sends-idle p (Request Cancel) e y h = inr (λ is. cc, h)
sends-idle p k e y h = absurd h

-- in calling a row sends only the INVITE again
-- w is the data of calling, k the kind of the message e, and y the row
pub sends-calling : (p : Times) (w : Waiting) (k : Kind) (e : MachineEvent) (y : Row) → Sends p (Calling w) k e y →
    (k ≡ Request Invite) × Retransmits p w.reliable w.request w.set w.interval e × (y ≡ (Calling (record w { set = e.moment; interval = 2 * w.interval }), keeps))
sends-calling p w (Request Invite) e y h = (refl, h.0, h.1)
sends-calling p w k e y h = absurd h

-- in proceeding a row sends only a CANCEL, and the phase stays but for the moment of the first CANCEL
pub sends-proceeding : (p : Times) (reliable : Bool) (request : List ℕ) (cancel : Option ℕ) (k : Kind) (e : MachineEvent) (y : Row) → Sends p (Proceeding reliable request cancel) k e y →
    (k ≡ Request Cancel) × ((y ≡ (Proceeding reliable request (Some e.moment), keeps)) ⊎ (y ≡ (Proceeding reliable request cancel, keeps)))
sends-proceeding p reliable request None (Request Cancel) e y h = (refl, inl h)
sends-proceeding p reliable request (Some first) (Request Cancel) e y h = (refl, inr h)
sends-proceeding p reliable request None k e y h = absurd h
sends-proceeding p reliable request (Some first) k e y h = absurd h

-- in accepted a row sends only a CANCEL, and the phase stays
pub sends-accepted : (p : Times) (set : ℕ) (k : Kind) (e : MachineEvent) (y : Row) → Sends p (Accepted set) k e y → (k ≡ Request Cancel) × (y ≡ (Accepted set, keeps))
sends-accepted p set (Request Cancel) e y h = (refl, h)
sends-accepted p set k e y h = absurd h

-- in completed a row sends only a CANCEL, and the phase stays
pub sends-completed : (p : Times) (reliable : Bool) (request : List ℕ) (set : ℕ) (k : Kind) (e : MachineEvent) (y : Row) → Sends p (Completed reliable request set) k e y →
    (k ≡ Request Cancel) × (y ≡ (Completed reliable request set, keeps))
sends-completed p reliable request set (Request Cancel) e y h = (refl, h)
sends-completed p reliable request set k e y h = absurd h

-- after the end a row sends only a CANCEL, and the phase stays
pub sends-ended : (p : Times) (k : Kind) (e : MachineEvent) (y : Row) → Sends p Ended k e y → (k ≡ Request Cancel) × (y ≡ (Ended, keeps))
sends-ended p (Request Cancel) e y h = (refl, h)
sends-ended p k e y h = absurd h
