use Rattle.std.proofs.Common.{arith}
use Rattle.std.proofs.lemmas.Int.Digits.{digits_value_more, digits_more}
use Rattle.std.proofs.lemmas.Str.{digit_value_digit}
use Rattle.sip_log.proofs.number.digits.Goals as goal

-- after one digit more, the number is that of the digits up to it
pub loop-at-preserved : goal.loop-at-preserved
loop-at-preserved c =
    let i = c.loop-at.at in
    let text = c.args.text.now in
    let inside = c.loop-at-test.true in
    let digit = c.if-not-is_ascii_digit.ensures in
    -- the value so far times ten, and the digit, is the value of one digit more
    let more = digits_value_more 10 text i inside in
    record {
      digits = digits_more 10 text i inside c.loop-at.invariant.digits digit.bound;
      value = omega (arith, more, digit_value_digit _ digit.cases, c.loop-at.invariant.value);
    }
