use Rattle.std.proofs.Common.{◌+◌, ◌*◌, ◌<◌, sym, ap, ◌∙◌, arith}
use Rattle.sip_message.proofs.lemmas.value.Number.{digits-at, number-more, number-large}
use Rattle.sip_message.proofs.values.number_at_most.Goals as goal
use Rattle.sip_message.proofs.values.number_at_most.Goals.{then-digit-most-via-then-digit-most, then-digit-most-via-else-digit-most+then-number-most}

-- a byte that is no digit cannot stand in a text of digits
pub returns-then-not-is_ascii_digit : goal.returns-then-not-is_ascii_digit
returns-then-not-is_ascii_digit c = λ digits.
    -- the byte at the index of the loop is no digit
    absurd (digits-at c.args.text.now c.loop-byte.byte-index digits c.loop-byte-test.true (sym c.is_ascii_digit.ensures.value ∙ c.if-not-is_ascii_digit.true))

-- where one digit more leads above the greatest number, so does the whole text
pub returns-then-digit-most : goal.returns-then-digit-most
returns-then-digit-most c = λ digits.
    -- the byte at `at` is the next digit: the number with it is that of the first at + 1 digits
    let text = c.args.text.now in
    let at = c.loop-byte.byte-index in
    let more = number-more text at c.loop-byte.number c.args.most c.loop-byte-test.true c.loop-byte.invariant (sym c.is_ascii_digit.ensures.value ∙ c.if-not-is_ascii_digit.false) in
    -- it is above `most`, since the digit is, or since the number before it was too great
    let large : c.args.most < c.loop-byte.number * 10 + c.from-digit.result = elim c.then-digit-most.branch [
      | then-digit-most-via-then-digit-most w ↦ omega (arith, w.if-digit-most.true)
      | then-digit-most-via-else-digit-most+then-number-most w ↦ omega (arith, w.if-digit-most.false, w.if-number-most.true)
    ] in
    -- and so is the number of all digits
    number-large text (at + 1) (c.loop-byte.number * 10 + c.from-digit.result) c.args.most (ap (λ d. c.loop-byte.number * 10 + d) c.from-digit.ensures ∙ more) large

-- after one digit more, the number is that of the digits up to it, and not above the greatest one
pub loop-byte-preserved : goal.loop-byte-preserved
loop-byte-preserved c =
    -- the byte at the index of the loop is a digit, and the number with it was tested
    let more = number-more c.args.text.now c.loop-byte.byte-index c.loop-byte.number c.args.most c.loop-byte-test.true c.loop-byte.invariant (sym c.is_ascii_digit.ensures.value ∙ c.if-not-is_ascii_digit.false) in
    record { value = ap (λ d. c.loop-byte.number * 10 + d) c.from-digit.ensures ∙ more; small = omega arith }
