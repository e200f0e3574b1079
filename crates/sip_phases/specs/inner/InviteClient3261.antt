-- How the code has the phases of the INVITE client of RFC 3261.
use Rattle.sip_standard.specs.InviteClient.{InviteClientPhase}
use Rattle.sip_phases.specs.inner.InviteClient.{invite_client_coded}
use Rattle.sip_phases.specs.inner.Coded.{Coded}

-- how the code has the phases of the INVITE client of RFC 3261: as those of `InviteClient`
abbrev pub invite_client_3261_coded : Coded InviteClientPhase
invite_client_3261_coded = invite_client_coded
