-- The INVITE client transaction of RFC 3261 section 17.1.1 and its figure 5, without RFC 6026: its phases are those of InviteClient, of which it never
-- enters accepted.
use Rattle.std.specs.Prelude.{◌≡◌, ◌⊎◌, true, None}
use Rattle.sip_standard.specs.declared.kind.Kind.{Kind}
use Rattle.sip_standard.specs.declared.kind.Kind.TheVariants.{Response}
use Rattle.sip_standard.specs.Times.{Times}
use Rattle.sip_standard.specs.MachineEvent.{MachineEvent}
use Rattle.sip_standard.specs.Kind.{IsProvisional, IsSuccess, IsUnsuccessful}
use Rattle.sip_standard.specs.Figure.{Figure, Change, keeps, drops, gains}
use Rattle.sip_standard.specs.InviteClient as corrected
use Rattle.sip_standard.specs.InviteClient.{InviteClientPhase, Ended, Calling, Proceeding, Completed, invite_client}

-- the rows of a received response: a 2xx ends the transaction, section 17.1.1.2; all others are those of InviteClient; e leads to y
abbrev pub Receives : Times → InviteClientPhase → Kind → MachineEvent → InviteClientPhase × Change → Type 0
Receives p (Calling w) (Response code) e y =
    (IsProvisional code × (y ≡ (Proceeding w.reliable w.request None, keeps)))
    ⊎ (IsSuccess code × (y ≡ (Ended, drops)))
    ⊎ (IsUnsuccessful code × (y ≡ (Completed w.reliable w.request e.moment, gains true e.text)))
Receives p (Proceeding reliable request cancel) (Response code) e y =
    (IsSuccess code × (y ≡ (Ended, drops)))
    ⊎ (IsUnsuccessful code × (y ≡ (Completed reliable request e.moment, gains true e.text)))
Receives p x k e y = corrected.Receives p x k e y

-- the figure of the INVITE client
abbrev pub invite_client_3261 : Figure InviteClientPhase
invite_client_3261 = record invite_client { Receives = Receives }
