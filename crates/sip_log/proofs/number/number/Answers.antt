use Rattle.std.proofs.Common.{◌≡◌, length, take, subst, sym, ap, ◌∙◌, refl, arith}
use mathlib.Core.Bool.{true≢false}
use Rattle.std.proofs.Math.Seq.{take-length}
use Rattle.std.specs.Str.Parse.{AllDigits, digits_value}
use Rattle.std.proofs.lemmas.Str.Parse.{digit_at}
use Rattle.sip_log.specs.inner.Number.{cut}
use Rattle.sip_log.proofs.number.number.Goals as goal

-- where there is no digit, or a 0 stands before other digits, the text is no number
pub returns-then-not-is_plain : goal.returns-then-not-is_plain
returns-then-not-is_plain c = λ n is. true≢false (sym (c.if-not-is_plain.ensures.1 (is.digits.0, is.plain)))

-- where a byte that is no digit stands in the text, the text is no number
pub returns-then-len-text : goal.returns-then-len-text
returns-then-len-text c = λ n is.
    let digit = digit_at c.args.text.now c.digits-value.result.1 is.digits.1 (omega arith) in
    omega (arith, digit, c.digits-value.ensures.end (omega arith))

-- where all bytes are digits and the number is plain, the text is that number
pub returns : goal.returns
returns c =
    let text = c.args.text.now in
    let plain = c.if-not-is_plain.ensures.0 refl in
    -- the digits go on to the end of the text, so all of it was read
    let same : c.digits-value.result.1 ≡ length text = omega (arith, c.digits-value.ensures.within) in
    let whole : take c.digits-value.result.1 text ≡ text = ap (λ n. take n text) same ∙ take-length text in (
      digits_value 10 text,
      record { digits = (plain.0, subst (AllDigits 10) whole c.digits-value.ensures.run); plain = plain.1; value = refl },
      c.digits-value.ensures.value ∙ ap (λ t. cut (digits_value 10 t)) whole,
    )
