-- The ACK of a response to an INVITE, and until when a client waits for such a response.
use Rattle.std.specs.Prelude.{◌≤◌, ◌<◌, ◌*◌, ◌⊎◌, ℕ, List, All}
use Rattle.std.specs.List.{Any}
use Rattle.sip_standard.specs.AckOf.{AckOf}
use Rattle.sip_standard.specs.declared.kind.Method.TheVariants.{Ack, Cancel}
use Rattle.sip_standard.specs.Window.{open_at, close_at}
use Rattle.sip_standard.specs.MachineEvent.{MachineEvent}
use Rattle.sip_standard.specs.Kind.{IsProvisional, IsUnsuccessful}
use Rattle.sip_standard.specs.Times.{Times}
use Rattle.consequences.specs.Events.{SendsRequest, GetsResponse}

-- the event sends the ACK of this response to the INVITE (section 17.1.1.3), as late after the response as an element may be
abbrev pub Acknowledges : Times → MachineEvent → MachineEvent → MachineEvent → Type 0
Acknowledges p invite response e = SendsRequest Ack e × AckOf e.text invite.text response.text × (e.moment ≤ close_at p response.moment 0)

-- by the moment a client may have given up its INVITE, since the event sent a CANCEL 64*T1 before (section 9.1)
abbrev pub GivesUp : Times → ℕ → MachineEvent → Type 0
GivesUp p m e = SendsRequest Cancel e × (open_at p e.moment (64 * p.t1) ≤ m)

-- by the moment timer D may have fired, since the event got a 300 to 699 at least 32 s before (section 17.1.1.2)
abbrev pub Completes : Times → ℕ → MachineEvent → Type 0
Completes p m e = GetsResponse IsUnsuccessful e × (open_at p e.moment 32000 ≤ m)

-- after the INVITE and the events, the client still waits for a final response at the moment: timer B may not fire yet (section 17.1.1.2), or a provisional
-- response came before it might, and no CANCEL gave up
abbrev pub IsAwaited : Times → MachineEvent → List MachineEvent → ℕ → Type 0
IsAwaited p invite es m =
    (m < open_at p invite.moment (64 * p.t1))
    ⊎ (Any (λ f. GetsResponse IsProvisional f × (f.moment < open_at p invite.moment (64 * p.t1))) es × All (λ f. ¬ (GivesUp p m f)) es)

-- after the INVITE and the events, timer D may not fire by the moment
abbrev pub IsBeforeTimerD : Times → MachineEvent → List MachineEvent → ℕ → Type 0
IsBeforeTimerD p invite es m = (m < open_at p invite.moment 32000) ⊎ All (λ f. ¬ (Completes p m f)) es
