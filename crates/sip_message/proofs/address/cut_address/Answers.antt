use Rattle.std.proofs.Common.{option_copied, sym, ap, ◌∙◌, subst}
use Rattle.std.proofs.lemmas.Bool.{both_ways}
use Rattle.std.proofs.lemmas.List.{take_rest}
use Rattle.sip_message.specs.inner.Only.{IsOnlyValue}
use Rattle.sip_message.specs.inner.Fronts.{pair_parts}
use Rattle.sip_message.specs.inner.AddressFronts.{AddressCut}
use Rattle.sip_message.proofs.lemmas.address.Reading.{cut-plain, cut-named, cut-no_display, cut-open}
use Rattle.sip_message.proofs.address.cut_address.Goals as goal

-- the text begins with a scheme, so a URI without angles stands there
pub returns-then-has_scheme : goal.returns-then-has_scheme
returns-then-has_scheme c =
    cut-plain c.args.text.now _ c.plain_len-len.result (c.has_scheme.ensures.0 c.if-has_scheme.true) c.plain_len-len.ensures.run (take_rest c.args.text.now c.plain_len-len.result)

-- where the text has neither a scheme nor a display name before a "<", it is not cut
pub returns-in_err-inner : goal.returns-in_err-inner
returns-in_err-inner c =
    subst (IsOnlyValue AddressCut pair_parts c.args.text.now) (sym c.from_residual.ensures)
    -- the text begins with no scheme, and no display name or "<" is read
    (cut-no_display c.args.text.now (λ has. both_ways c.has_scheme.result c.if-has_scheme.false (c.has_scheme.ensures.1 has)) c.in_err-inner.ensures)

-- without a ">" after the URI the text is no address
pub returns-in_err-rest : goal.returns-in_err-rest
returns-in_err-rest c =
    subst (IsOnlyValue AddressCut pair_parts c.args.text.now) (sym c.from_residual-in_err-rest.ensures)
    -- the text begins with no scheme, "<" stands there, and no ">" after it
    (cut-open c.args.text.now c.in_ok-inner.inner.now (λ has. both_ways c.has_scheme.result c.if-has_scheme.false (c.has_scheme.ensures.1 has)) c.in_ok-inner.ensures
    (sym (ap option_copied c.in_err-rest.was) ∙ c.cut.ensures.rest))

-- a display name and a URI in angles are cut, and what follows the ">" is left
pub returns : goal.returns
returns c =
    -- what stands after "<" is cut at its first ">"
    cut-named c.args.text.now c.in_ok-inner.inner.now c.cut.result.0.now c.in_ok-rest.rest.now c.in_ok-inner.ensures c.cut.ensures.front
    (sym (ap option_copied c.in_ok-rest.was) ∙ c.cut.ensures.rest)
