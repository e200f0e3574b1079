use Rattle.std.proofs.Common.{◌≢◌, ◌+◌, ◌*◌, length, sym, ◌∙◌, subst, arith}
use Rattle.std.proofs.lemmas.Bool.{eqb-false}
use Rattle.sip_message.proofs.PlainValueLemmas.{ReadsShort, short-more, short-end}
use Rattle.sip_message.proofs.plain_values.short_number.Goals as goal

-- with one digit more the number is ten times as large, plus the digit
pub loop-byte-preserved : goal.loop-byte-preserved
loop-byte-preserved c =
    -- the byte at `at` is a digit, and the number before it has at most eight digits
    let text = c.args.text.now in
    let at = c.loop-byte.byte-index in
    subst (λ d. ReadsShort text (at + 1) (c.loop-byte.number * 10 + d)) (sym c.from.ensures)
    (short-more text at c.loop-byte.number c.loop-byte-test.true c.loop-byte.invariant (sym c.is_ascii_digit.ensures.value ∙ c.if-not-is_ascii_digit.false) (omega (arith, c.if-number-gt-LAST_SHORT.false)))

-- at the end of the text its digits write the number
pub returns : goal.returns
returns c =
    -- `full`: the text is not empty
    let full : length c.args.text.now ≢ 0 = eqb-false (length c.args.text.now) 0 (sym c.is_empty.ensures ∙ c.if-is_empty.false) in
    short-end c.args.text.now c.loop-byte.byte-index c.loop-byte.number (omega (arith, full)) c.loop-byte-test.false c.loop-byte.invariant
