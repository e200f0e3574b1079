use Rattle.std.proofs.Common.{sym, subst}
use Rattle.sip_message.specs.inner.Only.{IsOnlyValue}
use Rattle.sip_message.specs.inner.Fronts.{text_parts}
use Rattle.sip_message.specs.inner.AddressFronts.{DisplayFront}
use Rattle.sip_message.proofs.lemmas.address.Reading.{display-angle, display-past, display-no_name}
use Rattle.sip_message.proofs.address.past_display.Goals as goal

-- where "<" stands first, it opens the URI
pub returns-in-Some : goal.returns-in-Some
returns-in-Some c = display-angle c.args.text.now c.in-Some.inner.now (sym c.in-Some.ensures)

-- where no display name stands at the front, nothing is cut off
pub returns-in_err-rest : goal.returns-in_err-rest
returns-in_err-rest c =
    -- neither "<" nor a display name stands at the front
    subst (IsOnlyValue DisplayFront text_parts c.args.text.now) (sym c.from_residual.ensures)
    (display-no_name c.args.text.now (sym c.in_default.ensures) c.in_err-rest.ensures)

-- what follows the display name, its blanks and "<" is left, if "<" stands there
pub returns : goal.returns
returns c =
    display-past c.args.text.now _ c.in_ok-rest.rest.now c.skip_blanks.result.now c.past-2.result (sym c.in_default.ensures) c.in_ok-rest.ensures c.skip_blanks.ensures c.past-2.ensures
