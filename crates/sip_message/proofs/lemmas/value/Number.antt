-- Numbers of any number of digits, read up to a bound.
use Rattle.std.proofs.Common.{◌≡◌, ℕ, ◌+◌, ◌*◌, ◌-◌, ◌<◌, ◌≤◌, Bool, true, false, List, length, take, get_or, sym, ◌∙◌, arith}
use Rattle.std.specs.Bool.{Decides}
use Rattle.std.specs.Char.{is_ascii_digit}
use Rattle.std.specs.List.{list_all}
use Rattle.std.specs.Str.Parse.{digits_value}
use Rattle.std.proofs.lemmas.Bool.{both_ways}
use Rattle.std.proofs.lemmas.Int.Digits.{digits_value_more}
use Rattle.std.proofs.lemmas.List.Folds.{list_all_at}
use Rattle.std.proofs.lemmas.Str.Parse.{digits_value-take-le}
use Rattle.sip_standard.specs.Text.{One, Many}
use Rattle.sip_text.proofs.texts.ManyLemmas.{many-some}
use Rattle.sip_text.proofs.texts.RunLemmas.{run-list_all, list_all-run}
use Rattle.sip_text.proofs.uris.UriPortLemmas.{digit-above}
use Rattle.sip_message.specs.inner.Values.{Digits}

-- the digits before the index write the number, which is at most `most`
pub record ReadsNumber (text : List ℕ) (at number most : ℕ) : Type 0 where
  pub value : number ≡ digits_value 10 (take at text)
  pub small : number ≤ most

-- a text with a byte that is no digit is no digits
pub digits-at : (text : List ℕ) (k : ℕ) → Digits text → k < length text → is_ascii_digit (get_or text k 0) ≡ false → ⊥
digits-at text k digits within other =
    -- the test of all bytes would fail at this one, but passes
    both_ways (list_all is_ascii_digit text) (list_all_at is_ascii_digit text k 0 within other)
    (run-list_all is_ascii_digit text (many-some (One is_ascii_digit) text digits))

-- where the digits before the index write a number, and the byte at the index is a digit, those up to it write ten times the number, plus the digit
pub number-more : (text : List ℕ) (at number most : ℕ) → at < length text → ReadsNumber text at number most → is_ascii_digit (get_or text at 0) ≡ true → number * 10 + (get_or text at 0 - 48) ≡ digits_value 10 (take (at + 1) text)
number-more text at number most within reads is =
    -- `digit` says how the byte of a digit and its value belong together
    let digit = digit-above (get_or text at 0) is in
    omega (arith, digits_value_more 10 text at within, reads.value, digit.2, digit.0)

-- where the digits before the index write a number above `most`, all digits of the text write one above it
pub number-large : (text : List ℕ) (at number most : ℕ) → number ≡ digits_value 10 (take at text) → most < number → most < digits_value 10 text
-- the number of all digits is not below that of the first ones
number-large text at number most is large = omega (arith, is, large, digits_value-take-le 10 text at (omega arith))

-- what decides whether all bytes pass a test decides whether the text is any number of bytes that do
pub all-decides : (test : ℕ → Bool) (text : List ℕ) (r : Bool) → r ≡ list_all test text → Decides r (Many (One test) text)
-- if: the test of all bytes passes, and so each byte does; only if: each byte passes, and so the test of all does
all-decides test text r is = (λ all. list_all-run test text (sym is ∙ all), λ many. is ∙ run-list_all test text many)
