use Rattle.std.proofs.Common.{sym, ◌∙◌, ap}
use Rattle.sip_standard.specs.Solid.{solid}
use Rattle.sip_standard.specs.AckOf.{SameSolid}
use Rattle.sip_message.specs.SaidOf.{said_of}
use Rattle.sip_key.proofs.ack_of.is_ack_of.Goals as goal

-- where the To of the ACK is that of the response, the fields that the ACK shares with the INVITE decide
pub returns-then-same_solid : goal.returns-then-same_solid
returns-then-same_solid c =
    let to : SameSolid c.args.ack.now.parts.to c.args.response.now.parts.to =
    ap solid (sym c.to.ensures) ∙ c.same_solid.ensures.0 c.if-same_solid.true ∙ ap solid c.to-2.ensures in
    c.is_ack_for.ensures (said_of c.args.response.now) to
