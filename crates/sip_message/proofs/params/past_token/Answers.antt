use Rattle.std.proofs.Common.{sym, subst}
use Rattle.std.proofs.lemmas.List.{take_rest}
use Rattle.sip_text.specs.Bytes.{is_token_byte}
use Rattle.sip_message.specs.inner.ParamFronts.{PastRun}
use Rattle.sip_message.proofs.lemmas.params.Value.{past-token}
use Rattle.sip_message.proofs.params.past_token.Goals as goal

-- what is left stands after the longest run of bytes of tokens at the front
pub returns : goal.returns
returns c =
    -- the code skips the longest token, and what is left is the text from there on
    subst (PastRun is_token_byte c.args.text.now) (sym (take_rest c.args.text.now c.token_len.result))
    (past-token c.args.text.now c.token_len.result c.token_len.ensures.reads)
