use Rattle.std.proofs.Common.{sym, subst}
use Rattle.std.proofs.lemmas.Bool.{both_ways}
use Rattle.sip_message.specs.inner.Only.{IsOnlyValue}
use Rattle.sip_message.specs.inner.Fronts.{pair_parts}
use Rattle.sip_message.specs.inner.ViaFronts.{HostFront}
use Rattle.sip_message.proofs.lemmas.via.Host.{host-found, host-missing}
use Rattle.sip_message.proofs.via.cut_host.Goals as goal

-- where nothing that may be a host stands at the front, no host is read
pub returns-in_err-host : goal.returns-in_err-host
returns-in_err-host c =
    -- a host would be what may be one
    subst (IsOnlyValue HostFront pair_parts c.args.text.now) (sym c.from_residual.ensures) (λ x is. c.in_err-host.ensures x is.1)

-- where what may be a host at the front is one, it is the host that is read
pub returns-then-is_host : goal.returns-then-is_host
returns-then-is_host c =
    host-found c.args.text.now c.in_ok-host.host.now c.in_ok-host.rest.now c.in_ok-host.ensures (c.is_host.ensures.0 c.if-is_host.true)

-- where what may be a host at the front is none, no host is read
pub returns-else-is_host : goal.returns-else-is_host
returns-else-is_host c =
    host-missing c.args.text.now c.in_ok-host.host.now c.in_ok-host.rest.now c.in_ok-host.ensures
    (λ is. both_ways c.is_host.result c.if-is_host.false (c.is_host.ensures.1 is))
