use Rattle.std.proofs.Common.{List, length}
use Rattle.sip_message.specs.inner.ParamFronts.{Param, ParamsFront}
use Rattle.sip_message.proofs.params.past_params.Given as goal

-- the text before the rest is parameters
abbrev pub invariant-params : goal.invariant-params
invariant-params l = (params : List Param) × ParamsFront l.fn.text params l.rest

-- what is left gets shorter in each turn of the loop
abbrev pub decreases-params : goal.decreases-params
decreases-params l = length l.rest
