use Rattle.std.proofs.Common.{refl, sym, subst}
use Rattle.sip_text.specs.Bytes.{colon}
use Rattle.sip_message.specs.inner.ParamFronts.{LedFront, led_parts}
use Rattle.sip_message.specs.inner.ViaFronts.{PortFront}
use Rattle.sip_message.proofs.lemmas.via.Host.{one-port}
use Rattle.sip_message.proofs.lemmas.front.Led.{no-led, led-some}
use Rattle.sip_message.specs.inner.Only.{IsOnlyValue}
use Rattle.sip_message.proofs.via.cut_led_port.Goals as goal

-- where a colon stands there without a port after it, no part is read
pub returns-in_err-port : goal.returns-in_err-port
returns-in_err-port c =
    subst (IsOnlyValue (LedFront colon PortFront) led_parts c.args.text.now) (sym c.from_residual.ensures)
    (no-led colon PortFront c.args.text.now c.in-Some.inner.now c.in-Some.ensures c.in_err-port.ensures)

-- where a port stands after the colon, the part is read with that port
pub returns : goal.returns
returns c =
    led-some colon PortFront c.args.text.now c.in-Some.inner.now c.in_ok-port.port.now c.in_ok-port.rest.now refl one-port
    c.in-Some.ensures c.in_ok-port.ensures.0
