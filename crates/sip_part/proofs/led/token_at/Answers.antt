-- In both proofs `same` says that the length that was measured is that of the longest run of bytes of a token.
use Rattle.std.proofs.Common.{◌∙◌, sym}
use Rattle.sip_text.specs.Bytes.{is_token_byte}
use Rattle.sip_text.proofs.texts.RunLemmas.{longest-run, longest-same}
use Rattle.sip_part.proofs.Tokens.{token_none, token_some}
use Rattle.sip_part.proofs.led.token_at.Goals as goal

-- a text that begins with no byte of a token begins with no token
pub returns-then-len-eq0 : goal.returns-then-len-eq0
returns-then-len-eq0 c =
    let text = c.args.text.now in
    let same = longest-same _ text _ _ c.token_len-len.ensures.reads (longest-run is_token_byte text) in
    sym (token_none text (sym same ∙ c.if-len-eq0.true))

-- the longest run of bytes of a token is the longest token
pub returns : goal.returns
returns c =
    let text = c.args.text.now in
    let same = longest-same _ text _ _ c.token_len-len.ensures.reads (longest-run is_token_byte text) in
    sym (token_some text c.token_len-len.result (sym same) c.if-len-eq0.false)
