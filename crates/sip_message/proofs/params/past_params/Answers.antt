-- `c.params.invariant`: .0 is the parameters that were read; .1, they stand in the text before the rest.
use Rattle.std.proofs.Common.{[], ◌∷◌, ◌++◌, option_copied}
use Rattle.sip_message.specs.inner.ParamFronts.{Param}
use Rattle.sip_message.proofs.lemmas.params.Reading.{params-more, param-shorter}
use Rattle.sip_message.proofs.params.past_params.Goals as goal

-- where one parameter more is read, the text before the rest is parameters still
pub params-preserved : goal.params-preserved
params-preserved c =
    -- p is the parameter that was read
    let p : Param = (c.in-Some.field-0-0.now, option_copied c.in-Some.field-0-1) in
    (c.params.invariant.0 ++ p ∷ [], params-more c.args.text.now c.params.invariant.0 c.params.rest.now p c.in-Some.more.now c.params.invariant.1 c.in-Some.ensures.0)

-- a parameter has bytes, so less is left
pub params-smaller : goal.params-smaller
params-smaller c =
    param-shorter c.params.rest.now (c.in-Some.field-0-0.now, option_copied c.in-Some.field-0-1) c.in-Some.more.now c.in-Some.ensures.0
