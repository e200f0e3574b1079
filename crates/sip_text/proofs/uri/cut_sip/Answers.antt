use Rattle.std.proofs.Common.{◌≤◌, length, refl, sym, ◌∙◌, rules}
use Rattle.std.proofs.lemmas.List.{take_rest}
use Rattle.sip_text.specs.Bytes.{semicolon, is_token_byte}
use Rattle.sip_text.proofs.uris.UriSipLemmas.{before-within, host-cut, sip-cut}
use Rattle.sip_text.proofs.uri.cut_sip.Goals as goal

-- the parameters end within the text
pub slice_bounds-params-count : goal.slice_bounds-params-count
slice_bounds-params-count c = before-within semicolon c.cut.result.0.now c.cut-2.result.0.now c.cut-2.ensures.front

-- the parameters begin within the text
pub slice_bounds-params-start : goal.slice_bounds-params-start
slice_bounds-params-start c =
    -- what stands before the first ";" is no longer than the text that is cut there
    let within : length c.cut-2.result.0.now ≤ length c.cut.result.0.now =
    before-within semicolon c.cut.result.0.now c.cut-2.result.0.now c.cut-2.ensures.front in
    search rules

-- where all bytes after the userinfo are bytes of tokens, they are the host, and no other part follows
pub returns-then-are_token_bytes : goal.returns-then-are_token_bytes
returns-then-are_token_bytes c =
    host-cut is_token_byte c.args.text.now _ _ c.cut_userinfo.result.2.now refl refl refl
    c.cut_userinfo.ensures (sym c.are_token_bytes.ensures ∙ c.if-are_token_bytes.true)

-- cut at its "@", its "?", its first ";" and its port, the text has the parts of a SIP URI
pub returns : goal.returns
returns c =
    sip-cut c.args.text.now _ c.cut_userinfo.result.2.now c.cut.result.0.now c.cut-2.result.0.now
    c.cut_userinfo.ensures c.cut.ensures.front c.cut.ensures.rest c.cut-2.ensures.front c.cut_port.ensures
    (take_rest c.cut.result.0.now (length c.cut-2.result.0.now))
