-- `c.params.invariant`: .0, `from` is not after the end; .1, where the bytes from there on are parameters, those from `at` on are.
use Rattle.std.proofs.Common.{option_copied}
use Rattle.sip_message.proofs.PlainLemmas.{params-behind}
use Rattle.sip_message.proofs.plain.are_plain_params.Goals as goal

-- where what is left after one parameter more is parameters, the whole is too
pub params-preserved : goal.params-preserved
params-preserved c =
    (c.in-Some.ensures.param.1, λ later. c.params.invariant.1 (params-behind (c.in-Some.field-0-0.now, option_copied c.in-Some.field-0-1) c.args.masks.now c.params.from c.args.end c.in-Some.to c.in-Some.ensures.param later))
