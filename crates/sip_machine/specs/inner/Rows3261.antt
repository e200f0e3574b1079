-- The rows of the machines of RFC 3261, beside those of RFC 6026.
use Rattle.std.specs.Prelude.{Bool}
use Rattle.sip_standard.specs.declared.kind.Kind.{Kind}
use Rattle.sip_standard.specs.declared.kind.Kind.TheVariants.{Response}
use Rattle.sip_standard.specs.Kind.{IsSuccess}
use Rattle.sip_standard.specs.InviteClient.{InviteClientPhase, Calling, Proceeding}
use Rattle.sip_phases.specs.declared.invite_server.InviteServerPhase.{InviteServerPhase as CodeCorrected}
use Rattle.sip_phases.specs.declared.invite_server_3261.InviteServer3261Phase.{InviteServer3261Phase as CodePhase}
use Rattle.sip_phases.specs.declared.invite_server_3261.InviteServer3261Phase.TheVariants as code
use Rattle.sip_machine.specs.declared.phases.Turn.{Turn}

-- the phase waits for a final response, and the message is a 2xx, which ends it
abbrev pub IsEndedBy : InviteClientPhase → Kind → Type 0
IsEndedBy (Calling w) (Response code) = IsSuccess code
IsEndedBy (Proceeding reliable request cancel) (Response code) = IsSuccess code
IsEndedBy x k = ⊥

-- a turn of `InviteServer` as one of the INVITE server of RFC 3261
abbrev pub turn_within : Bool → Turn CodeCorrected → Turn CodePhase
turn_within again turn = record { phase = code.In turn.phase again; change = turn.change }
