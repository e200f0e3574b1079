-- Both INVITE servers: but for a 2xx they have the same rows, over phases that each holds in its own way.
-- In the lemmas x is a phase of the server by RFC 6026, k the kind of the message of the event e, and y where its row leads.
use Rattle.std.proofs.Common.{◌≡◌, ◌*◌, ◌⊎◌, inl, inr, ℕ, Bool, true, false, Option, Some, None, List, refl, sym, subst, min}
use Rattle.sip_standard.specs.declared.kind.Method.TheVariants.{Invite, Ack}
use Rattle.sip_standard.specs.declared.kind.Kind.{Kind}
use Rattle.sip_standard.specs.declared.kind.Kind.TheVariants.{Request, Response}
use Rattle.sip_standard.specs.Times.{Times}
use Rattle.sip_standard.specs.MachineEvent.{MachineEvent}
use Rattle.sip_standard.specs.Kind.{IsProvisional, IsSuccess, IsUnsuccessful}
use Rattle.sip_standard.specs.Figure.{Figure, Change, keeps, softens, gains}
use Rattle.sip_standard.specs.InviteServer.{InviteServerPhase, Idle, Proceeding, Accepted, Completed, Confirmed, invite_server}
use Rattle.sip_standard.specs.InviteServer as corrected
use Rattle.sip_standard.specs.InviteServer3261 as without

-- what a row leads to: a phase, and what becomes of the debts
abbrev pub Row : Type 0
Row = InviteServerPhase × Change

-- what holds of the rows of both servers; `held` gives the phase of the server for a phase of RFC 6026
pub record IsServer {X : Type 0} (f : Figure X) (p : Times) (held : InviteServerPhase → X) : Type 0 where
  pub idle : f.idle ≡ held Idle
  pub ended : f.ended ≡ held Idle
  -- a row y of a received message e, of the kind k, is one of the machine by RFC 6026 in the phase x
  pub received : (x : InviteServerPhase) (k : Kind) (e : MachineEvent) (y : X × Change) → f.Receives p (held x) k e y → (row : Row) × corrected.Receives p x k e row × (y ≡ (held row.0, row.1))
  -- a row of a sent message is one of the machine by RFC 6026, or one of a 2xx in proceeding
  pub sent : (x : InviteServerPhase) (k : Kind) (e : MachineEvent) (y : X × Change) → f.Sends p (held x) k e y → ((row : Row) × corrected.Sends p x k e row × (y ≡ (held row.0, row.1)))
      ⊎ ((reliable : Bool) × (set : ℕ) × (last : Option (List ℕ)) × (x ≡ Proceeding reliable set last) × ((code : ℕ) × (k ≡ Response code) × IsSuccess code))
  -- what is paid has the bytes of the message that is sent; nothing is sent that changes nothing, a refused send ends nothing, and an INVITE opens a
  -- transaction
  pub paid : (x : InviteServerPhase) (k : Kind) (e : MachineEvent) (message : List ℕ) → f.Satisfies (held x) k e message → message ≡ e.text
  pub unmoved : (x : InviteServerPhase) (k : Kind) → ¬ (f.Stays (held x) k)
  pub undaunted : (x : X) (k : Kind) → f.ends_refused x k ≡ false
  pub opened : (e : MachineEvent) → f.Receives p (held Idle) (Request Invite) e (held (Proceeding e.reliable e.moment None), keeps)
  pub window : (x : InviteServerPhase) → f.window p (held x) ≡ corrected.timer_window p x
  pub sends_by : (x : InviteServerPhase) → f.sends_by p (held x) ≡ corrected.sends_by p x

-- by RFC 6026 a response pays for the message that has its bytes
paid-6026 : (x : InviteServerPhase) (k : Kind) (e : MachineEvent) (message : List ℕ) → corrected.Satisfies x k e message → message ≡ e.text
paid-6026 x (Response code) e message h = h
paid-6026 x (Request method) e message h = absurd h

-- what IsServer asks holds of the server by RFC 6026
pub is-server-6026 : (p : Times) → IsServer corrected.invite_server p (λ x. x)
is-server-6026 p = record {
  idle = refl;
  ended = refl;
  -- its rows are themselves those of RFC 6026
  received = λ x k e y h. (y, h, refl);
  sent = λ x k e y h. inl (y, h, refl);
  -- what pays a debt has its bytes, and a refusal counts as sent
  paid = paid-6026;
  unmoved = λ x k h. h;
  undaunted = λ x k. refl;
  opened = λ e. refl;
  window = λ x. refl;
  sends_by = λ x. refl;
}

-- the phase of the server by RFC 3261 that has sent no 2xx before
abbrev pub first_in : InviteServerPhase → without.InviteServer3261Phase
first_in x = without.In x false

-- a row of a message that the server by RFC 3261 sends is one of RFC 6026, or one of a 2xx in proceeding
-- x is the phase, k the kind of the message e, and y where the row leads
sent-3261 : (p : Times) (x : InviteServerPhase) (k : Kind) (e : MachineEvent) (y : without.InviteServer3261Phase × Change) → without.Sends p (first_in x) k e y →
    ((row : Row) × corrected.Sends p x k e row × (y ≡ (first_in row.0, row.1)))
    ⊎ ((reliable : Bool) × (set : ℕ) × (last : Option (List ℕ)) × (x ≡ Proceeding reliable set last) × ((code : ℕ) × (k ≡ Response code) × IsSuccess code))
-- a 2xx in proceeding has a row of its own, and any other response in proceeding or in completed has that of RFC 6026
sent-3261 p (Proceeding reliable set last) (Response code) e y (inl h) = inr (reliable, set, last, refl, (code, refl, h.0))
sent-3261 p (Proceeding reliable set last) (Response code) e y (inr h) = inl h.1
sent-3261 p (Completed reliable final set repeat interval) (Response code) e y h = inl h.1
sent-3261 p x k e y h = absurd h

-- by RFC 3261 alone a response pays for the message that has its bytes
paid-3261 : (x : InviteServerPhase) (k : Kind) (e : MachineEvent) (message : List ℕ) → without.Satisfies (first_in x) k e message → message ≡ e.text
paid-3261 x (Response code) e message h = h.1
paid-3261 x (Request method) e message h = absurd h

-- the server by RFC 3261 sends no message without a row for it or a debt that it pays
unmoved-3261 : (x : InviteServerPhase) (k : Kind) → ¬ (without.Stays (first_in x) k)
unmoved-3261 x (Response code) h = never h.0
  where
    -- false is not true: the phase does not remember that the INVITE came again
    never : ¬ (false ≡ true)
    never is = cc
unmoved-3261 x (Request method) h = absurd h

-- what IsServer asks holds of the server by RFC 3261, as long as it has sent no 2xx
pub is-server-3261 : (p : Times) → IsServer without.invite_server_3261 p first_in
is-server-3261 p = record {
  idle = refl;
  ended = refl;
  -- a row of a received message is one of RFC 6026 by the definition (Within)
  received = λ x k e y h. h;
  sent = sent-3261 p;
  -- what pays a debt has its bytes, and a refusal counts as sent
  paid = paid-3261;
  unmoved = unmoved-3261;
  undaunted = λ x k. refl;
  opened = λ e. ((Proceeding e.reliable e.moment None, keeps), refl, refl);
  window = λ x. refl;
  sends_by = λ x. refl;
}

-- What follows are the rows, read as cases.

-- the rows of a received request: an INVITE comes to an idle server, or comes again, or an ACK comes
pub data ReceivedRow : InviteServerPhase → Kind → MachineEvent → Row → Type 0 where
  -- the INVITE makes an idle server proceed
  comes : (e : MachineEvent) → ReceivedRow Idle (Request Invite) e (Proceeding e.reliable e.moment None, keeps)
  -- it comes again in proceeding, and the last response is owed once more, as one that must be sent or may be (`must`)
  again : (e : MachineEvent) (reliable : Bool) (set : ℕ) (last : List ℕ) (must : Bool) →
      ReceivedRow (Proceeding reliable set (Some last)) (Request Invite) e (Proceeding reliable set (Some last), gains must last)
  -- it comes again in completed, and the final response may be sent once more
  again_after : (e : MachineEvent) (reliable : Bool) (final : List ℕ) (set repeat interval : ℕ) →
      ReceivedRow (Completed reliable final set repeat interval) (Request Invite) e (Completed reliable final set repeat interval, gains false final)
  -- the ACK makes a completed server confirmed
  acknowledged : (e : MachineEvent) (reliable : Bool) (final : List ℕ) (set repeat interval : ℕ) →
      ReceivedRow (Completed reliable final set repeat interval) (Request Ack) e (Confirmed reliable e.moment, keeps)

-- each row of a received message is one of these cases
pub received-row : (p : Times) (x : InviteServerPhase) (k : Kind) (e : MachineEvent) (row : Row) → corrected.Receives p x k e row → ReceivedRow x k e row
received-row p Idle (Request Invite) e row h = subst (ReceivedRow Idle (Request Invite) e) (sym h) (comes e)
received-row p (Proceeding reliable set (Some last)) (Request Invite) e row (inl h) =
    subst (ReceivedRow (Proceeding reliable set (Some last)) (Request Invite) e) (sym h.1) (again e reliable set last true)
received-row p (Proceeding reliable set (Some last)) (Request Invite) e row (inr h) =
    subst (ReceivedRow (Proceeding reliable set (Some last)) (Request Invite) e) (sym h.1) (again e reliable set last false)
-- an INVITE that comes again in proceeding or completed is owed the last response, and an ACK confirms
received-row p (Proceeding reliable set None) k e row h = absurd h
received-row p (Completed reliable final set repeat interval) (Request Invite) e row h =
    subst (ReceivedRow (Completed reliable final set repeat interval) (Request Invite) e) (sym h) (again_after e reliable final set repeat interval)
received-row p (Completed reliable final set repeat interval) (Request Ack) e row h =
    subst (ReceivedRow (Completed reliable final set repeat interval) (Request Ack) e) (sym h) (acknowledged e reliable final set repeat interval)
received-row p x k e row h = absurd h

-- the rows of a sent response: one of proceeding, a 2xx again, or the final response again
pub data SentRow (p : Times) : InviteServerPhase → Kind → MachineEvent → Row → Type 0 where
  -- proceeding sends a provisional response, a 2xx, or one of 300 to 699; e is what is sent, and `code` its code
  provisional : (e : MachineEvent) (reliable : Bool) (set : ℕ) (last : Option (List ℕ)) (code : ℕ) → IsProvisional code →
      SentRow p (Proceeding reliable set last) (Response code) e (Proceeding reliable set (Some e.text), keeps)
  success : (e : MachineEvent) (reliable : Bool) (set : ℕ) (last : Option (List ℕ)) (code : ℕ) → IsSuccess code →
      SentRow p (Proceeding reliable set last) (Response code) e (Accepted e.moment, softens)
  unsuccessful : (e : MachineEvent) (reliable : Bool) (set : ℕ) (last : Option (List ℕ)) (code : ℕ) → IsUnsuccessful code →
      SentRow p (Proceeding reliable set last) (Response code) e (Completed reliable e.text e.moment e.moment p.t1, softens)
  -- accepted sends a 2xx again, and completed its final response
  success_again : (e : MachineEvent) (set code : ℕ) → IsSuccess code → SentRow p (Accepted set) (Response code) e (Accepted set, keeps)
  repeats : (e : MachineEvent) (reliable : Bool) (final : List ℕ) (set repeat interval : ℕ) (k : Kind) → e.text ≡ final →
      SentRow p (Completed reliable final set repeat interval) k e (Completed reliable final set e.moment (min (2 * interval) p.t2), keeps)

-- each row of a sent message is one of these cases
pub sent-row : (p : Times) (x : InviteServerPhase) (k : Kind) (e : MachineEvent) (row : Row) → corrected.Sends p x k e row → SentRow p x k e row
-- in proceeding the response is provisional, a 2xx, or of 300 to 699: one case for each
sent-row p (Proceeding reliable set last) (Response code) e row (inl h) =
    subst (SentRow p (Proceeding reliable set last) (Response code) e) (sym h.1) (provisional e reliable set last code h.0)
sent-row p (Proceeding reliable set last) (Response code) e row (inr (inl h)) =
    subst (SentRow p (Proceeding reliable set last) (Response code) e) (sym h.1) (success e reliable set last code h.0)
sent-row p (Proceeding reliable set last) (Response code) e row (inr (inr h)) =
    subst (SentRow p (Proceeding reliable set last) (Response code) e) (sym h.1) (unsuccessful e reliable set last code h.0)
-- in accepted a 2xx is sent again, and in completed the final response; no other phase sends
sent-row p (Accepted set) (Response code) e row h = subst (SentRow p (Accepted set) (Response code) e) (sym h.1) (success_again e set code h.0)
sent-row p (Completed reliable final set repeat interval) (Response code) e row h =
    subst (SentRow p (Completed reliable final set repeat interval) (Response code) e) (sym h.1) (repeats e reliable final set repeat interval (Response code) h.0.same)
sent-row p x k e row h = absurd h
