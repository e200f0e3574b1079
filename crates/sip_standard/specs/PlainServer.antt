-- The non-INVITE server transaction, RFC 3261 section 17.2.2 and its figure 8.
use Rattle.std.specs.Prelude.{◌≡◌, ◌*◌, ◌⊎◌, ℕ, Bool, true, false, Option, None, List, [], if◌then◌else◌}
use Rattle.sip_standard.specs.declared.kind.Kind.{Kind}
use Rattle.sip_standard.specs.declared.kind.Kind.TheVariants.{Request, Response}
use Rattle.sip_standard.specs.Times.{Times}
use Rattle.sip_standard.specs.Window.{window_at}
use Rattle.sip_standard.specs.MachineEvent.{MachineEvent}
use Rattle.sip_standard.specs.Kind.{IsProvisional, IsFinal}
use Rattle.sip_standard.specs.Figure.{Figure, Change, keeps, softens, gains}
use Rattle.sip_standard.specs.Replies.{Replies}

-- the phases of section 17.2.2, with the one before the request, which is the one after the end too
pub data PlainServerPhase : Type 0 where
  Idle : PlainServerPhase
  Trying : (reliable : Bool) → PlainServerPhase
  Proceeding : (reliable : Bool) (last : List ℕ) → PlainServerPhase
  Completed : (reliable : Bool) (final : List ℕ) (set : ℕ) → PlainServerPhase

-- the rows of a received request: one that comes again is answered with the last response, of which a 100 need not be sent
abbrev pub Receives : Times → PlainServerPhase → Kind → MachineEvent → PlainServerPhase × Change → Type 0
Receives p Idle (Request method) e y = y ≡ (Trying e.reliable, keeps)
Receives p (Proceeding reliable last) (Request method) e y = Replies (Proceeding reliable last) last y
Receives p (Completed reliable final set) (Request method) e y = y ≡ (Completed reliable final set, gains true final)
Receives p x k e y = ⊥

-- the rows of a response that is sent: a provisional one leads to proceeding, a final one to completed, which starts timer J
abbrev pub Sends : Times → PlainServerPhase → Kind → MachineEvent → PlainServerPhase × Change → Type 0
Sends p (Trying reliable) (Response code) e y =
    (IsProvisional code × (y ≡ (Proceeding reliable e.text, keeps))) ⊎ (IsFinal code × (y ≡ (Completed reliable e.text e.moment, softens)))
Sends p (Proceeding reliable last) (Response code) e y =
    (IsProvisional code × (y ≡ (Proceeding reliable e.text, keeps))) ⊎ (IsFinal code × (y ≡ (Completed reliable e.text e.moment, softens)))
Sends p x k e y = ⊥

-- when its timer lets a phase end, section 17.2.2: timer J, 64*T1 over an unreliable transport, 0 over a reliable one
abbrev pub timer_window : Times → PlainServerPhase → Option (ℕ × Option ℕ)
timer_window p (Completed reliable final set) = window_at p set (if reliable then 0 else 64 * p.t1)
timer_window p x = None

-- the figure of the non-INVITE server: a message that is sent again pays what it is equal to, a refused send counts as sent, and no phase has to send
abbrev pub plain_server : Figure PlainServerPhase
plain_server =
    record { idle = Idle; ended = Idle; Receives = Receives; Sends = Sends; Satisfies = λ x k e message. message ≡ e.text; Stays = λ x k. ⊥; ends_refused = λ x k. false; window = timer_window; sends_by = λ p x. [] }
