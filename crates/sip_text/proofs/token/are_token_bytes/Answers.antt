use Rattle.sip_text.specs.Bytes.{is_token_byte}
use Rattle.sip_text.proofs.texts.RunLemmas.{longest-same, longest-run, run-whole}
use Rattle.sip_text.proofs.token.are_token_bytes.Goals as goal

-- all bytes are of tokens exactly if the longest run of them is the whole text
pub returns : goal.returns
returns c =
    let text = c.args.text.now in
    run-whole is_token_byte text c.token_len.result (longest-same _ text _ _ c.token_len.ensures.reads (longest-run is_token_byte text))
