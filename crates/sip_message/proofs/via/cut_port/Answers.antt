use Rattle.std.proofs.Common.{sym, subst}
use Rattle.std.proofs.lemmas.Bool.{both_ways}
use Rattle.sip_message.specs.inner.Fronts.{pair_parts}
use Rattle.sip_message.specs.inner.ViaFronts.{PortFront}
use Rattle.sip_message.proofs.lemmas.via.Host.{port-found, port-missing}
use Rattle.sip_message.specs.inner.Only.{IsOnlyValue}
use Rattle.sip_message.proofs.via.cut_port.Goals as goal

-- where no token stands at the front, no port is read
pub returns-in_err-port : goal.returns-in_err-port
returns-in_err-port c =
    -- a port would be a token
    subst (IsOnlyValue PortFront pair_parts c.args.text.now) (sym c.from_residual.ensures) (λ x is. c.in_err-port.ensures x is.1)

-- where the token at the front is a port, it is the port that is read
pub returns-then-is_port : goal.returns-then-is_port
returns-then-is_port c =
    port-found c.args.text.now c.in_ok-port.port.now c.in_ok-port.rest.now c.in_ok-port.ensures (c.is_port.ensures.0 c.if-is_port.true)

-- where what follows the colon is no port, the text has no port there
pub returns-else-is_port : goal.returns-else-is_port
returns-else-is_port c =
    port-missing c.args.text.now c.in_ok-port.port.now c.in_ok-port.rest.now c.in_ok-port.ensures
    (λ is. both_ways c.is_port.result c.if-is_port.false (c.is_port.ensures.1 is))
