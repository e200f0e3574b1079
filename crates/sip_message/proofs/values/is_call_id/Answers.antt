use Rattle.std.proofs.Common.{Some, None, sym, ap, ◌∙◌, option_copied}
use Rattle.sip_text.proofs.uris.UriPartLemmas.{both-when, both-unless, first-alone}
use Rattle.sip_message.proofs.lemmas.value.CallId.{decides-call_id}
use Rattle.sip_message.proofs.values.is_call_id.Goals as goal

-- an `@` follows the first word, so the second one decides
pub returns-then-is_word : goal.returns-then-is_word
returns-then-is_word c =
    decides-call_id c.args.text.now c.cut.result.0.now (Some c.in-Some.other.now) c.is_word-then-is_word.result
    c.cut.ensures.front (ap option_copied (sym c.in-Some.is) ∙ c.cut.ensures.rest)
    (both-when c.is_word.result c.is_word-then-is_word.result c.if-is_word.true c.is_word.ensures c.is_word-then-is_word.ensures)

-- where what stands before "@" is no word, the text is no Call-ID
pub returns-else-is_word : goal.returns-else-is_word
returns-else-is_word c =
    -- the first word fails, so the second one is not tested
    decides-call_id c.args.text.now c.cut.result.0.now (Some c.in-Some.other.now) c.is_word.result
    c.cut.ensures.front (ap option_copied (sym c.in-Some.is) ∙ c.cut.ensures.rest)
    (both-unless c.is_word.result c.if-is_word.false c.is_word.ensures)

-- no `@` stands in the text, so the one word decides
pub returns-in-None : goal.returns-in-None
returns-in-None c =
    decides-call_id c.args.text.now c.cut.result.0.now None c.is_word-in-None.result
    c.cut.ensures.front (ap option_copied (sym c.in-None.is) ∙ c.cut.ensures.rest)
    (first-alone _ c.is_word-in-None.ensures)
