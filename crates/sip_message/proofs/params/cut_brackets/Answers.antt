use Rattle.std.proofs.Common.{option_copied, sym, ap, subst, ◌∙◌}
use Rattle.sip_message.specs.inner.Fronts.{pair_parts}
use Rattle.sip_message.specs.inner.ParamFronts.{BracketFront}
use Rattle.sip_message.proofs.lemmas.params.Value.{no-close, one-closed, closed-short}
use Rattle.sip_message.specs.inner.Only.{IsOnlyValue}
use Rattle.sip_message.proofs.params.cut_brackets.Goals as goal

-- where no "]" follows the "[", nothing in brackets is read
pub returns-in_err-rest : goal.returns-in_err-rest
returns-in_err-rest c =
    subst (IsOnlyValue BracketFront pair_parts c.args.text.now) (sym c.from_residual-in_err-rest.ensures)
    (no-close c.args.text.now c.in_ok-past.field-0.now (sym c.in_ok-past.ensures) (sym c.cut.ensures.rest ∙ ap option_copied c.in_err-rest.was))

-- what stands in brackets lies within the text
pub slice_bounds-result-count : goal.slice_bounds-result-count
slice_bounds-result-count c =
    -- the text begins with "[", and "]" stands after it
    closed-short c.args.text.now c.in_ok-past.field-0.now c.in_ok-rest.rest.now (sym c.in_ok-past.ensures) (sym c.cut.ensures.rest ∙ ap option_copied c.in_ok-rest.was)

-- what stands from "[" to the first "]" was cut off
pub returns : goal.returns
returns c =
    one-closed c.args.text.now c.in_ok-past.field-0.now c.in_ok-rest.rest.now (sym c.in_ok-past.ensures) (sym c.cut.ensures.rest ∙ ap option_copied c.in_ok-rest.was)
