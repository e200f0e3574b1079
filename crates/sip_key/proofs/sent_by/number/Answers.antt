-- `reads-more`: the byte at the index is at least `0` (`low`), the number with it is at most 65535 (`value`), and the bytes up to it are digits that write
-- this number (`more`).
use Rattle.std.proofs.Common.{sym, subst, ◌+◌, ◌*◌, ℕ, arith}
use Rattle.sip_text.proofs.uris.UriPortLemmas.{ReadsDigits}
use Rattle.sip_key.proofs.SentByLemmas.{reads-more}
use Rattle.sip_key.proofs.sent_by.number.Goals as goal

-- the digits so far are few, so the number fits
pub overflow_mul-number : goal.overflow_mul-number
overflow_mul-number c =
    let more = reads-more c.args.digits.now c.loop-digit.digit-index c.loop-digit.number c.requires c.loop-digit-test.true c.loop-digit.invariant in
    omega (arith, more.value)

-- a digit is not below `0`
pub overflow_sub-digit : goal.overflow_sub-digit
overflow_sub-digit c =
    (reads-more c.args.digits.now c.loop-digit.digit-index c.loop-digit.number c.requires c.loop-digit-test.true c.loop-digit.invariant).low

-- a port of at most five digits is a number of 16 bits
pub overflow_add-number : goal.overflow_add-number
overflow_add-number c =
    let more = reads-more c.args.digits.now c.loop-digit.digit-index c.loop-digit.number c.requires c.loop-digit-test.true c.loop-digit.invariant in
    omega (arith, more.value, c.from.ensures)

-- with one digit more the number is ten times as large, plus the digit
pub loop-digit-preserved : goal.loop-digit-preserved
loop-digit-preserved c =
    let more = reads-more c.args.digits.now c.loop-digit.digit-index c.loop-digit.number c.requires c.loop-digit-test.true c.loop-digit.invariant in
    let P : ℕ → Type 0 = λ d. ReadsDigits c.args.digits.now (c.loop-digit.digit-index + 1) (c.loop-digit.number * 10 + d) in
    subst P (sym c.from.ensures) more.more
