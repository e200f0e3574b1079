use Rattle.std.proofs.Common.{◌≡◌, ◌∷◌, ◌++◌, List, ℕ, take, drop, subst, sym, ap, ◌∙◌, refl}
use mathlib.Core.Bool.{true≢false}
use Rattle.std.proofs.lemmas.List.{take_rest, take-append-drop}
use Rattle.std.specs.Str.Parse.{digits_value}
use Rattle.sip_log.specs.inner.Number.{IsNumber, IsPlain}
use Rattle.sip_log.specs.inner.Spelling.{space}
use Rattle.sip_log.proofs.numbers.DigitLemmas.{digits-front}
use Rattle.sip_log.proofs.line.read_numbers.Goals as goal

-- where the moment is not written as a number is, the line tells no two numbers
pub returns-then-not-is_plain : goal.returns-then-not-is_plain
returns-then-not-is_plain c = λ moment len is.
    -- the digits that were read are the text of the moment, and so pass the test that failed
    let read = c.digits-moment.ensures in
    let parts = digits-front c.args.text.now is.moment_text is.len_text c.digits-moment.result.1 is.whole is.moment_is.digits.1 read.within read.run read.end in
    true≢false (sym (c.if-not-is_plain.ensures.1 (subst IsPlain (sym parts.0) (is.moment_is.digits.0, is.moment_is.plain))))

-- where no blank follows the moment, the line tells no two numbers
pub returns-in_err-rest : goal.returns-in_err-rest
returns-in_err-rest c =
    rw c.from_residual.ensures
    (λ moment len is.
    -- the digits that were read are the text of the moment, so a blank stands after them
    let read = c.digits-moment.ensures in
    let parts = digits-front c.args.text.now is.moment_text is.len_text c.digits-moment.result.1 is.whole is.moment_is.digits.1 read.within read.run read.end in
    (rw (take_rest c.args.text.now c.digits-moment.result.1) at c.in_err-rest.ensures) is.len_text parts.1)

-- where what follows the blank is no number, the line tells no two numbers
pub returns-in_err-len : goal.returns-in_err-len
returns-in_err-len c =
    let text = c.args.text.now in
    let at = c.digits-moment.result.1 in
    let rest : drop at text ≡ space ∷ c.in_ok-rest.rest.now = rw (take_rest text at) at c.in_ok-rest.ensures in
    rw c.from_residual-in_err-len.ensures
    (λ moment len is.
    -- the digits before the blank are the moment, and what follows it is no number
    let read = c.digits-moment.ensures in
    let parts = digits-front text is.moment_text is.len_text at is.whole is.moment_is.digits.1 read.within read.run read.end in
    let same : is.len_text ≡ c.in_ok-rest.rest.now = cc in
    c.in_err-len.ensures len (subst (λ t. IsNumber t len) same is.len_is))

-- the moment, a blank and the length are the whole line
pub returns : goal.returns
returns c =
    let text = c.args.text.now in
    let at = c.digits-moment.result.1 in
    let rest : drop at text ≡ space ∷ c.in_ok-rest.rest.now = rw (take_rest text at) at c.in_ok-rest.ensures in
    let plain = c.if-not-is_plain.ensures.0 refl in
    let len = c.in_ok-len.ensures in
    -- the digits before the blank are the moment, and what follows it is the length
    let moment_is : IsNumber (take at text) (digits_value 10 (take at text)) = record { digits = (plain.0, c.digits-moment.ensures.run); plain = plain.1; value = refl } in (
      digits_value 10 (take at text),
      len.0,
      -- the line is the two texts with the blank between them
      record {
        moment_text = take at text;
        len_text = c.in_ok-rest.rest.now;
        moment_is = moment_is;
        len_is = len.1;
        whole = sym (take-append-drop at text) ∙ ap (λ (t : List ℕ). take at text ++ t) rest;
      },
      c.digits-moment.ensures.value,
      len.2,
    )
