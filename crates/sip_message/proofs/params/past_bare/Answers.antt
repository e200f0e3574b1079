use Rattle.std.proofs.Common.{sym}
use Rattle.sip_message.proofs.lemmas.params.Value.{bare-more}
use Rattle.sip_message.proofs.params.past_bare.Goals as goal

-- past a colon and the bytes of tokens after it, all bytes before the rest are still bytes of tokens or colons
pub colons-preserved : goal.colons-preserved
colons-preserved c =
    -- a colon stands there, and the bytes of tokens after it are passed over
    bare-more c.args.text.now c.colons.rest.now c.in-Some.more.now c.past_token-rest-in-Some.result.now c.colons.invariant
    (sym c.in-Some.ensures) c.past_token-rest-in-Some.ensures
