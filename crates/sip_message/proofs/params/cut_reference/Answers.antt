use Rattle.std.proofs.Common.{sym, subst}
use Rattle.std.proofs.lemmas.Bool.{both_ways}
use Rattle.sip_message.specs.inner.Only.{IsOnlyValue}
use Rattle.sip_message.specs.inner.Fronts.{pair_parts}
use Rattle.sip_message.specs.inner.ParamFronts.{ReferenceFront}
use Rattle.sip_message.proofs.lemmas.front.OneWay.{reference-bracket}
use Rattle.sip_message.proofs.lemmas.params.Value.{one-host_reference, no-host_reference}
use Rattle.sip_message.proofs.params.cut_reference.Goals as goal

-- where no brackets stand at the front, no address in brackets is read
pub returns-in_err-part : goal.returns-in_err-part
returns-in_err-part c =
    -- if an address in brackets stood there, brackets would stand there
    subst (IsOnlyValue ReferenceFront pair_parts c.args.text.now) (sym c.from_residual.ensures)
    (λ x reference. c.in_err-part.ensures x (reference-bracket c.args.text.now x reference))

-- where what stands in the brackets is no IPv6 address, none is read
pub returns-else-is_host : goal.returns-else-is_host
returns-else-is_host c =
    -- what stands in brackets was cut off, and is no host
    no-host_reference c.args.text.now c.in_ok-part.part.now c.in_ok-part.rest.now c.in_ok-part.ensures
    (λ host. both_ways c.is_host.result c.if-is_host.false (c.is_host.ensures.1 host))

-- an IPv6 address in brackets stands at the front, and is read
pub returns-then-is_host : goal.returns-then-is_host
returns-then-is_host c =
    -- what stands in brackets was cut off, and is a host
    one-host_reference c.args.text.now c.in_ok-part.part.now c.in_ok-part.rest.now c.in_ok-part.ensures (c.is_host.ensures.0 c.if-is_host.true)
