use Rattle.std.proofs.Common.{refl}
use Rattle.std.proofs.lemmas.Bool.{both_ways}
use Rattle.sip_message.proofs.lemmas.params.Value.{bare-found, bare-missing}
use Rattle.sip_message.proofs.params.cut_bare_run.Goals as goal

-- where the run of bare bytes is a token or an IPv6 address, it is the value that is read
pub returns-then-is_bare : goal.returns-then-is_bare
returns-then-is_bare c =
    bare-found c.args.text.now c.past_bare-rest.result.now _ c.past_bare-rest.ensures refl (c.is_bare.ensures.0 c.if-is_bare.true)

-- where the run of bare bytes is neither, no bare value is read, and nothing shorter is one
pub returns-else-is_bare : goal.returns-else-is_bare
returns-else-is_bare c =
    -- a bare value would be the whole run, which is neither
    bare-missing c.args.text.now c.past_bare-rest.result.now _ c.past_bare-rest.ensures refl
    (λ kind. both_ways c.is_bare.result c.if-is_bare.false (c.is_bare.ensures.1 kind))
