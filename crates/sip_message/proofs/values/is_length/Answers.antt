use Rattle.std.proofs.Common.{sym, ◌∙◌}
use Rattle.std.specs.Char.{is_ascii_digit}
use Rattle.sip_standard.specs.Text.{One}
use Rattle.sip_text.proofs.uris.UriCharLemmas.{some-decides}
use Rattle.sip_message.proofs.lemmas.value.Number.{all-decides}
use Rattle.sip_message.proofs.values.is_length.Goals as goal

-- a text of digits that is not empty has one or more
pub returns-then-not-is_empty : goal.returns-then-not-is_empty
returns-then-not-is_empty c =
    -- all bytes are tested, and there is one at least
    some-decides (One is_ascii_digit) c.args.text.now c.are_digits.result (sym c.is_empty.ensures ∙ c.if-not-is_empty.true)
    (all-decides is_ascii_digit c.args.text.now c.are_digits.result c.are_digits.ensures)
