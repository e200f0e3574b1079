-- The INVITE client transaction, RFC 3261 section 17.1.1 and its figure 5, with the accepted state of RFC 6026 section 7.2.
use Rattle.std.specs.Prelude.{◌≡◌, ◌*◌, ◌⊎◌, ℕ, Bool, true, false, Option, Some, None, List, [], ◌∷◌, if◌then◌else◌}
use Rattle.sip_standard.specs.AckOf.{AckOf}
use Rattle.sip_standard.specs.declared.kind.Method.TheVariants.{Invite, Ack, Cancel}
use Rattle.sip_standard.specs.declared.kind.Kind.{Kind}
use Rattle.sip_standard.specs.declared.kind.Kind.TheVariants.{Request, Response}
use Rattle.sip_standard.specs.Times.{Times}
use Rattle.sip_standard.specs.Window.{open_at, close_at, window_at}
use Rattle.sip_standard.specs.MachineEvent.{MachineEvent}
use Rattle.sip_standard.specs.Retransmits.{Retransmits}
use Rattle.sip_standard.specs.Waiting.{Waiting}
use Rattle.sip_standard.specs.Kind.{IsProvisional, IsSuccess, IsUnsuccessful}
use Rattle.sip_standard.specs.Figure.{Figure, Change, keeps, gains}

-- the phases of section 17.1.1.2 and of RFC 6026, with the one before the INVITE and the one after the end
pub data InviteClientPhase : Type 0 where
  Idle Ended : InviteClientPhase
  Calling : Waiting → InviteClientPhase
  Proceeding : (reliable : Bool) (request : List ℕ) (cancel : Option ℕ) → InviteClientPhase
  Accepted : (set : ℕ) → InviteClientPhase
  Completed : (reliable : Bool) (request : List ℕ) (set : ℕ) → InviteClientPhase

-- the rows of a received response
abbrev pub Receives : Times → InviteClientPhase → Kind → MachineEvent → InviteClientPhase × Change → Type 0
-- 17.1.1.2: a provisional one stops timers A and B; RFC 6026: a 2xx starts timer M; 17.1.1.2: any other starts timer D, and is owed an ACK
Receives p (Calling w) (Response code) e y =
    (IsProvisional code × (y ≡ (Proceeding w.reliable w.request None, keeps)))
    ⊎ (IsSuccess code × (y ≡ (Accepted e.moment, keeps)))
    ⊎ (IsUnsuccessful code × (y ≡ (Completed w.reliable w.request e.moment, gains true e.text)))
Receives p (Proceeding reliable request cancel) (Response code) e y =
    (IsSuccess code × (y ≡ (Accepted e.moment, keeps)))
    ⊎ (IsUnsuccessful code × (y ≡ (Completed reliable request e.moment, gains true e.text)))
-- 17.1.1.2: an ACK must be sent for each one that comes in again too, and timer D stays
Receives p (Completed reliable request set) (Response code) e y = IsUnsuccessful code × (y ≡ (Completed reliable request set, gains true e.text))
Receives p x k e y = ⊥

-- the rows of a sent request
abbrev pub Sends : Times → InviteClientPhase → Kind → MachineEvent → InviteClientPhase × Change → Type 0
-- 17.1.1.2: timers A and B start, A at T1
Sends p Idle (Request Invite) e y =
    y ≡ (Calling (record { reliable = e.reliable; request = e.text; start = e.moment; set = e.moment; interval = p.t1 }), keeps)
-- 13.2.2.4: the ACK of a 2xx is no part of the transaction, and has a key of its own; a CANCEL changes nothing where no INVITE was sent
Sends p Idle (Request Ack) e y = y ≡ (Idle, keeps)
Sends p Idle (Request Cancel) e y = y ≡ (Idle, keeps)
-- 17.1.1.2: timer A fires, and starts again at twice its interval, without a cap; 9.1: a CANCEL waits for a provisional response
Sends p (Calling w) (Request Invite) e y =
    Retransmits p w.reliable w.request w.set w.interval e × (y ≡ (Calling (record w { set = e.moment; interval = 2 * w.interval }), keeps))
-- 9.1: the first CANCEL starts the wait to give up
Sends p (Proceeding reliable request None) (Request Cancel) e y = y ≡ (Proceeding reliable request (Some e.moment), keeps)
Sends p (Proceeding reliable request (Some first)) (Request Cancel) e y = y ≡ (Proceeding reliable request (Some first), keeps)
-- 9.1: after a final response a CANCEL has no effect
Sends p (Accepted set) (Request Cancel) e y = y ≡ (Accepted set, keeps)
Sends p (Completed reliable request set) (Request Cancel) e y = y ≡ (Completed reliable request set, keeps)
Sends p Ended (Request Cancel) e y = y ≡ (Ended, keeps)
Sends p x k e y = ⊥

-- an ACK of the INVITE pays the response that it is for, section 17.1.1.3
abbrev pub Satisfies : InviteClientPhase → Kind → MachineEvent → List ℕ → Type 0
Satisfies (Completed reliable request set) (Request Ack) e response = AckOf e.text request response
Satisfies x k e response = ⊥

-- a refused INVITE or ACK ends the transaction, section 17.1.4, but for an ACK in idle, which is no part of it; a refused CANCEL counts as sent
abbrev pub ends_refused : InviteClientPhase → Kind → Bool
ends_refused x (Request Invite) = true
ends_refused (Completed reliable request set) (Request Ack) = true
ends_refused x k = false

-- when the timers of a phase let it end
abbrev pub timer_window : Times → InviteClientPhase → Option (ℕ × Option ℕ)
-- timer B, section 17.1.1.2: 64*T1 from the first INVITE on
timer_window p (Calling w) = window_at p w.start (64 * p.t1)
-- section 9.1: a cancelled INVITE waits for its final response for 64*T1 from the CANCEL on at least
timer_window p (Proceeding reliable request (Some first)) = Some (open_at p first (64 * p.t1), None)
-- timer M, RFC 6026 section 7.2: 64*T1 over every transport
timer_window p (Accepted set) = window_at p set (64 * p.t1)
-- timer D, section 17.1.1.2: at least 32 seconds over an unreliable transport, without a last moment, and 0 over a reliable one
timer_window p (Completed reliable request set) = if reliable then window_at p set 0 else Some (open_at p set 32000, None)
timer_window p x = None

-- by when a phase has to send: timer A, over an unreliable transport
abbrev pub sends_by : Times → InviteClientPhase → List ℕ
sends_by p (Calling w) = if w.reliable then [] else close_at p w.set w.interval ∷ []
sends_by p x = []

-- the figure of the INVITE client
abbrev pub invite_client : Figure InviteClientPhase
invite_client =
    record { idle = Idle; ended = Ended; Receives = Receives; Sends = Sends; Satisfies = Satisfies; Stays = λ x k. ⊥; ends_refused = ends_refused; window = timer_window; sends_by = sends_by }
