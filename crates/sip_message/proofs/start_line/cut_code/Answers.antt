use Rattle.std.proofs.Common.{◌≡◌, false, refl, ◌<◌, sym, ap, ◌∙◌, subst}
use Rattle.std.specs.Str.Parse.{digits_value}
use Rattle.std.proofs.lemmas.Bool.{both_ways}
use Rattle.sip_text.specs.Bytes.{space}
use Rattle.sip_text.specs.inner.Cut.{past}
use Rattle.sip_message.specs.inner.Values.{Digits}
use Rattle.sip_message.specs.inner.StartLine.{CodeFront, status_parts}
use Rattle.sip_message.proofs.lemmas.start_line.Reading.{code-short, code-no_space, code-no_digits, code-high, code-low, code-read}
use Rattle.sip_message.specs.inner.Only.{IsOnlyValue}
use Rattle.sip_message.proofs.start_line.cut_code.Goals as goal

-- a text of less than three bytes has no code
pub returns-then-text-lt3 : goal.returns-then-text-lt3
returns-then-text-lt3 c = code-short c.args.text.now c.if-text-lt3.true

-- where no SP follows the first three bytes, no code stands there
pub returns-in_err-rest : goal.returns-in_err-rest
returns-in_err-rest c =
    -- the SP is looked for after the first three bytes
    subst (IsOnlyValue CodeFront status_parts c.args.text.now) (sym c.from_residual.ensures)
    (code-no_space c.args.text.now (ap (past space) (sym c.split_at.ensures.back) ∙ sym c.in_err-rest.ensures))

-- where the first three bytes are no digits, no code stands there
pub returns-then-not-is_length : goal.returns-then-not-is_length
returns-then-not-is_length c =
    code-no_digits c.args.text.now (λ digits. both_ways false refl (c.if-not-is_length.ensures.1 (subst Digits (sym c.split_at.ensures.front) digits)))

-- where the number is above 699, it is no code
pub returns-in_err-code : goal.returns-in_err-code
returns-in_err-code c =
    subst (IsOnlyValue CodeFront status_parts c.args.text.now) (sym c.from_residual-in_err-code.ensures)
    (code-high c.args.text.now (subst Digits c.split_at.ensures.front (c.if-not-is_length.ensures.0 refl)) (subst (λ t. Digits t → 699 < digits_value 10 t) c.split_at.ensures.front c.in_err-code.ensures))

-- a number below 100 is no code
pub returns-then-code-lt100 : goal.returns-then-code-lt100
returns-then-code-lt100 c =
    code-low c.args.text.now c.in_ok-code.code (subst (λ t. c.in_ok-code.code ≡ digits_value 10 t) c.split_at.ensures.front c.in_ok-code.ensures.0) c.if-code-lt100.true

-- three digits that write a number from 100 to 699, with a SP after them, are a code
pub returns : goal.returns
returns c =
    code-read c.args.text.now c.in_ok-rest.rest.now c.in_ok-code.code c.if-text-lt3.false (ap (past space) (sym c.split_at.ensures.back) ∙ sym c.in_ok-rest.ensures)
    (subst Digits c.split_at.ensures.front (c.if-not-is_length.ensures.0 refl)) (subst (λ t. c.in_ok-code.code ≡ digits_value 10 t) c.split_at.ensures.front c.in_ok-code.ensures.0)
    c.in_ok-code.ensures.1 c.if-code-lt100.false
