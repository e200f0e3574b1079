-- The non-INVITE client transaction, RFC 3261 section 17.1.2 and its figure 6.
use Rattle.std.specs.Prelude.{◌≡◌, ◌*◌, ◌⊎◌, ℕ, Bool, true, Option, None, List, [], ◌∷◌, if◌then◌else◌, min}
use Rattle.sip_standard.specs.declared.kind.Kind.{Kind}
use Rattle.sip_standard.specs.declared.kind.Kind.TheVariants.{Request, Response}
use Rattle.sip_standard.specs.Times.{Times}
use Rattle.sip_standard.specs.Window.{close_at, window_at}
use Rattle.sip_standard.specs.MachineEvent.{MachineEvent}
use Rattle.sip_standard.specs.Retransmits.{Retransmits}
use Rattle.sip_standard.specs.Waiting.{Waiting}
use Rattle.sip_standard.specs.Kind.{IsProvisional, IsFinal}
use Rattle.sip_standard.specs.Figure.{Figure, Change, keeps}

-- the phases of section 17.1.2.2, with the one before the request and the one after the end
pub data PlainClientPhase : Type 0 where
  Idle Ended : PlainClientPhase
  Trying Proceeding : Waiting → PlainClientPhase
  Completed : (reliable : Bool) (set : ℕ) → PlainClientPhase

-- the rows of a received response: a provisional one leaves timer E as it is, and a final one starts timer K
abbrev pub Receives : Times → PlainClientPhase → Kind → MachineEvent → PlainClientPhase × Change → Type 0
Receives p (Trying w) (Response code) e y =
    (IsProvisional code × (y ≡ (Proceeding w, keeps))) ⊎ (IsFinal code × (y ≡ (Completed w.reliable e.moment, keeps)))
Receives p (Proceeding w) (Response code) e y = IsFinal code × (y ≡ (Completed w.reliable e.moment, keeps))
Receives p x k e y = ⊥

-- the rows of a sent request: timers E and F start, E at T1; E fires, and starts again at twice its interval up to T2, in proceeding at T2; e leads to y
abbrev pub Sends : Times → PlainClientPhase → Kind → MachineEvent → PlainClientPhase × Change → Type 0
Sends p Idle (Request method) e y =
    y ≡ (Trying (record { reliable = e.reliable; request = e.text; start = e.moment; set = e.moment; interval = p.t1 }), keeps)
Sends p (Trying w) (Request method) e y =
    Retransmits p w.reliable w.request w.set w.interval e × (y ≡ (Trying (record w { set = e.moment; interval = min (2 * w.interval) p.t2 }), keeps))
Sends p (Proceeding w) (Request method) e y =
    Retransmits p w.reliable w.request w.set w.interval e × (y ≡ (Proceeding (record w { set = e.moment; interval = p.t2 }), keeps))
Sends p x k e y = ⊥

-- when the timers of a phase let it end (section 17.1.2.2): timer F, 64*T1 from the first request on; timer K, T4, or 0 over a reliable transport
abbrev pub timer_window : Times → PlainClientPhase → Option (ℕ × Option ℕ)
timer_window p (Trying w) = window_at p w.start (64 * p.t1)
timer_window p (Proceeding w) = window_at p w.start (64 * p.t1)
timer_window p (Completed reliable set) = window_at p set (if reliable then 0 else p.t4)
timer_window p x = None

-- by when a phase has to send: timer E, over an unreliable transport
abbrev pub sends_by : Times → PlainClientPhase → List ℕ
sends_by p (Trying w) = if w.reliable then [] else close_at p w.set w.interval ∷ []
sends_by p (Proceeding w) = if w.reliable then [] else close_at p w.set w.interval ∷ []
sends_by p x = []

-- the figure of the non-INVITE client: it owes nothing, and a refused request ends it, section 17.1.4
abbrev pub plain_client : Figure PlainClientPhase
plain_client =
    record { idle = Idle; ended = Ended; Receives = Receives; Sends = Sends; Satisfies = λ x k e message. ⊥; Stays = λ x k. ⊥; ends_refused = λ x k. true; window = timer_window; sends_by = sends_by }
