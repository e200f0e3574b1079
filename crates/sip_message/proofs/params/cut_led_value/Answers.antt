use Rattle.std.proofs.Common.{refl, sym, subst}
use Rattle.sip_text.specs.Bytes.{equals}
use Rattle.sip_message.specs.inner.ParamFronts.{ValueFront, LedFront, led_parts}
use Rattle.sip_message.proofs.lemmas.front.OneWay.{one-value}
use Rattle.sip_message.proofs.lemmas.front.Led.{no-led, led-some}
use Rattle.sip_message.specs.inner.Only.{IsOnlyValue}
use Rattle.sip_message.proofs.params.cut_led_value.Goals as goal

-- where a "=" stands there without a value after it, no part is read
pub returns-in_err-value : goal.returns-in_err-value
returns-in_err-value c =
    subst (IsOnlyValue (LedFront equals ValueFront) led_parts c.args.text.now) (sym c.from_residual.ensures)
    (no-led equals ValueFront c.args.text.now c.in-Some.inner.now c.in-Some.ensures c.in_err-value.ensures)

-- where a value stands after the "=", the part is read with that value
pub returns : goal.returns
returns c =
    led-some equals ValueFront c.args.text.now c.in-Some.inner.now c.in_ok-value.value.now c.in_ok-value.rest.now refl one-value
    c.in-Some.ensures c.in_ok-value.ensures.0
