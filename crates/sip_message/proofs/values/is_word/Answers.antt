use Rattle.std.proofs.Common.{sym, ap, ◌∙◌}
use Rattle.std.specs.List.{list_all}
use Rattle.std.proofs.lemmas.List.{take_rest}
use Rattle.sip_message.specs.inner.Values.{is_word_byte}
use Rattle.sip_standard.specs.Text.{One}
use Rattle.sip_text.proofs.uris.UriCharLemmas.{some-decides}
use Rattle.sip_message.proofs.lemmas.value.Number.{all-decides}
use Rattle.sip_message.proofs.lemmas.value.CallId.{words-behind}
use Rattle.sip_message.proofs.values.is_word.Goals as goal

-- the bytes of a token are bytes of a word, so only those after them are looked at
pub returns-then-not-is_empty : goal.returns-then-not-is_empty
returns-then-not-is_empty c =
    -- the text is not empty, and all its bytes may stand in a word exactly if those after its longest token may
    some-decides (One is_word_byte) c.args.text.now c.are_word_bytes.result (sym c.is_empty.ensures ∙ c.if-not-is_empty.true)
    (all-decides is_word_byte c.args.text.now c.are_word_bytes.result
    (c.are_word_bytes.ensures ∙ ap (list_all is_word_byte) (take_rest c.args.text.now c.token_len.result) ∙ words-behind c.args.text.now c.token_len.result c.type_inv.text c.token_len.ensures.reads))
