-- `each-past`: where the first part is a parameter, all parts of the text are exactly if those of the rest are (`.0`), and the rest is shorter (`.1`)
-- `c.params.invariant`: .0, where all parts of the rest are parameters, all of the text are; .1, the other way round.
use Rattle.std.proofs.Common.{sym, ap, ◌∙◌, refl, option_copied}
use Rattle.std.proofs.lemmas.Bool.{both_ways, false≢true}
use Rattle.sip_text.specs.Bytes.{semicolon}
use Rattle.sip_text.specs.inner.Pieces.{UriParameter}
use Rattle.sip_text.proofs.uris.UriPartLemmas.{each-past, each-last, each-first, joined-each, each-joined}
use Rattle.sip_text.proofs.uri.are_joined_params.Goals as goal

-- where one of the parts between ";" is no parameter, the text is no parameters
pub returns-then-not-is_param : goal.returns-then-not-is_param
returns-then-not-is_param c = (
  λ is. absurd (false≢true is),
  λ params.
      -- of parameters each part is a parameter, and so is this one, which the test refused
      let each = c.params.invariant.1 (joined-each c.args.text.now params) in
      absurd (both_ways c.is_param.result c.if-not-is_param.true
      (c.is_param.ensures.1 (each-first semicolon UriParameter c.params.rest.now _ c.cut.ensures.front each))),
)

-- what is left is shorter
pub params-smaller : goal.params-smaller
params-smaller c =
    (each-past semicolon UriParameter c.params.rest.now c.cut.result.0.now c.in-Some.more.now c.cut.ensures.front
    (ap option_copied (sym c.in-Some.is) ∙ c.cut.ensures.rest) (c.is_param.ensures.0 c.if-not-is_param.false)).1

-- after one parameter more, the text is parameters exactly if what is left is
pub params-preserved : goal.params-preserved
params-preserved c =
    let past = (each-past semicolon UriParameter c.params.rest.now c.cut.result.0.now c.in-Some.more.now c.cut.ensures.front
    (ap option_copied (sym c.in-Some.is) ∙ c.cut.ensures.rest) (c.is_param.ensures.0 c.if-not-is_param.false)).0 in
    (λ each. c.params.invariant.0 (past.0 each), λ each. past.1 (c.params.invariant.1 each))

-- each part was a parameter, the last one too, so the text is parameters
pub returns-in-None : goal.returns-in-None
returns-in-None c = (
  λ _. each-joined c.args.text.now (c.params.invariant.0
      (each-last semicolon UriParameter c.params.rest.now c.cut.result.0.now c.cut.ensures.front
      (ap option_copied (sym c.in-None.is) ∙ c.cut.ensures.rest) (c.is_param.ensures.0 c.if-not-is_param.false))),
  λ _. refl,
)
