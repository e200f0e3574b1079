use Rattle.std.proofs.Common.{length}
use Rattle.sip_message.proofs.lemmas.params.Value.{BareSoFar}
use Rattle.sip_message.proofs.params.past_bare.Given as goal

-- all bytes before the rest are bytes of tokens or colons, and the rest begins with no byte of a token
abbrev pub invariant-colons : goal.invariant-colons
invariant-colons l = BareSoFar l.fn.text l.rest

-- what is left gets shorter in each turn of the loop
abbrev pub decreases-colons : goal.decreases-colons
decreases-colons l = length l.rest
