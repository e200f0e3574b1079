-- The INVITE server transaction of RFC 3261 section 17.2.1 and its figure 7, without RFC 6026: a 2xx is the last that it does, and the INVITE, when it
-- comes again after one, begins it anew.
use Rattle.std.specs.Prelude.{◌≡◌, ◌⊎◌, ℕ, Bool, true, false, Option, None, List, []}
use Rattle.sip_standard.specs.declared.kind.Method.TheVariants.{Invite}
use Rattle.sip_standard.specs.declared.kind.Kind.{Kind}
use Rattle.sip_standard.specs.declared.kind.Kind.TheVariants.{Request, Response}
use Rattle.sip_standard.specs.Times.{Times}
use Rattle.sip_standard.specs.MachineEvent.{MachineEvent}
use Rattle.sip_standard.specs.Kind.{IsSuccess}
use Rattle.sip_standard.specs.Figure.{Figure, Change, keeps, drops}
use Rattle.sip_standard.specs.InviteServer as corrected
use Rattle.sip_standard.specs.InviteServer.{InviteServerPhase, Idle, Proceeding, Accepted, Completed}

-- its phases: those of InviteServer, of which it never enters accepted, and whether the INVITE came again after a 2xx; and the one after a 2xx
pub data InviteServer3261Phase : Type 0 where
  Passed : InviteServer3261Phase
  In : InviteServerPhase → (again : Bool) → InviteServer3261Phase

-- a row of InviteServer, before and after which it is remembered alike whether the INVITE came again
abbrev pub Within : (InviteServerPhase × Change → Type 0) → Bool → InviteServer3261Phase × Change → Type 0
Within Row again y = (after : InviteServerPhase × Change) × Row after × (y ≡ (In after.0 again, after.1))

-- the rows of a received request: those of InviteServer, and an INVITE after a 2xx begins anew
abbrev pub Receives : Times → InviteServer3261Phase → Kind → MachineEvent → InviteServer3261Phase × Change → Type 0
Receives p Passed (Request Invite) e y = y ≡ (In (Proceeding e.reliable e.moment None) true, keeps)
Receives p Passed k e y = ⊥
Receives p (In x again) k e y = Within (corrected.Receives p x k e) again y

-- the rows of a sent response: section 17.2.1: a 2xx ends the transaction, and the user sends it again; any other has those of InviteServer
abbrev pub Sends : Times → InviteServer3261Phase → Kind → MachineEvent → InviteServer3261Phase × Change → Type 0
Sends p Passed (Response code) e y = IsSuccess code × (y ≡ (Passed, keeps))
Sends p (In (Proceeding reliable set last) again) (Response code) e y =
    (IsSuccess code × (y ≡ (Passed, drops)))
    ⊎ (¬ (IsSuccess code) × Within (corrected.Sends p (Proceeding reliable set last) (Response code) e) again y)
Sends p (In (Completed reliable final set repeat interval) again) (Response code) e y =
    ¬ (IsSuccess code) × Within (corrected.Sends p (Completed reliable final set repeat interval) (Response code) e) again y
Sends p x k e y = ⊥

-- a response that is sent again pays what it is equal to, byte for byte; no 2xx is owed
abbrev pub Satisfies : InviteServer3261Phase → Kind → MachineEvent → List ℕ → Type 0
Satisfies x (Request method) e message = ⊥
Satisfies x (Response code) e message = ¬ (IsSuccess code) × (message ≡ e.text)

-- the phase is one in which it matters that the INVITE came again after a 2xx
abbrev pub remembers : InviteServerPhase → Bool
remembers Idle = false
remembers (Accepted set) = false
remembers x = true

-- in a phase in which that matters, the user may repeat its 2xx where the INVITE came again after it (own, lenient)
abbrev pub Stays : InviteServer3261Phase → Kind → Type 0
Stays (In x again) (Response code) = (again ≡ true) × (remembers x ≡ true) × IsSuccess code
Stays x k = ⊥

-- the timers of a phase: those of InviteServer, and none after a 2xx
abbrev pub timer_window : Times → InviteServer3261Phase → Option (ℕ × Option ℕ)
timer_window p Passed = None
timer_window p (In x again) = corrected.timer_window p x

-- by when a phase has to send: as in InviteServer, and nothing after a 2xx
abbrev pub sends_by : Times → InviteServer3261Phase → List ℕ
sends_by p Passed = []
sends_by p (In x again) = corrected.sends_by p x

-- the figure of the INVITE server; a refused send counts as sent
abbrev pub invite_server_3261 : Figure InviteServer3261Phase
invite_server_3261 =
    record { idle = In Idle false; ended = In Idle false; Receives = Receives; Sends = Sends; Satisfies = Satisfies; Stays = Stays; ends_refused = λ x k. false; window = timer_window; sends_by = sends_by }
