use Rattle.std.proofs.Common.{◌∷◌, sym, subst}
use Rattle.std.proofs.lemmas.Bool.{both_ways}
use Rattle.sip_message.specs.inner.ElementFronts.{FirstVia}
use Rattle.sip_message.proofs.lemmas.via.Value.{first-stands, vias-behind, first-is}
use Rattle.sip_message.specs.ValueParts.{element}
use Rattle.sip_message.specs.inner.Only.{IsOnlyValue}
use Rattle.sip_message.proofs.via.first_via.Goals as goal

-- where no element stands at the front, the text is no elements of Via
pub returns-in_err-first : goal.returns-in_err-first
returns-in_err-first c =
    subst (IsOnlyValue FirstVia element c.args.text.now) (sym c.from_residual.ensures) (λ e is. c.in_err-first.ensures (e, is.1.1) (first-stands c.args.text.now e is))

-- where further elements follow, the first one is the top Via
pub returns-then-are_more_vias : goal.returns-then-are_more_vias
returns-then-are_more_vias c =
    -- `more` is what is left after the first element, and the test says that it is further elements
    let text = c.args.text.now in
    let more = c.in_ok-first.rest.now in
    let first = element c.in_ok-first.first in
    first-is text more first c.in_ok-first.ensures ((vias-behind text more first c.in_ok-first.ensures).1 (c.are_more_vias.ensures.0 c.if-are_more_vias.true))

-- where what follows the first element is not further elements, the text is no elements of Via
pub returns-else-are_more_vias : goal.returns-else-are_more_vias
returns-else-are_more_vias c = λ e is.
    -- the test says that what is left is no further elements, though the text would be elements
    both_ways c.are_more_vias.result c.if-are_more_vias.false
    (c.are_more_vias.ensures.1 ((vias-behind c.args.text.now c.in_ok-first.rest.now (element c.in_ok-first.first) c.in_ok-first.ensures).0 (e ∷ is.0, is.1)))
