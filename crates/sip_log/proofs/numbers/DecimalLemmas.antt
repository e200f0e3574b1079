-- A number of a log is the decimal text of std, and that text is a number of a log.
-- In the lemmas n is a number, and ds are digits: those that come after it, or those of its text.
-- `λ i. f (e i)`: by the equation e, f of its left side is equal to f of its right side.
use Rattle.std.proofs.Common.{◌≡◌, ◌<◌, ◌≤◌, ◌+◌, ◌*◌, ◌/◌, ◌%◌, ◌^◌, inl, inr, ℕ, zero, suc, Bool, false, if◌then◌else◌, List, [], ◌∷◌, ◌++◌, length, get_or, subst, refl, sym, ap, ◌∙◌, arith, append_assoc}
use Rattle.std.proofs.lemmas.Bool.{cases_lt}
use Rattle.std.proofs.lemmas.List.{append-nil, length-append}
use Rattle.std.proofs.Math.ListN.{get_or-append}
use Rattle.std.specs.Char.{digit_value}
use Rattle.std.specs.Str.Parse.{AllDigits, digits_value, digits_value_after}
use Rattle.std.specs.Fmt.{decimal, digits, digits_onto, digit_glyph}
use borrow.Author.Tests.{ne_eqb}
use Rattle.std.proofs.lemmas.Str.{digit_value_digit}
use Rattle.std.proofs.lemmas.Str.Parse.{digit_from_value}
use Rattle.std.proofs.lemmas.Int.Digits.{digits_value-lt}
use Rattle.std.proofs.lemmas.Fmt.{decimal_is_IsNumeral_wide, decimal_digit, decimal_step_wide, decimal_by_steps_wide}
use Rattle.std.proofs.Math.Nat.{pow-le-pow_right}
use native.Mathlib.Nat.{pow-zero, pow-succ'}
use Rattle.sip_log.specs.inner.Number.{IsNumber, digit_zero}

-- powers of ten rise
pub powers : (i j : ℕ) → i ≤ j → 10 ^ i ≤ 10 ^ j
powers i j more = pow-le-pow_right (omega arith) more

-- digits after a number make no smaller one
le_value_after : (n : ℕ) (ds : List ℕ) → n ≤ digits_value_after 10 n ds
le_value_after n [] = omega arith
le_value_after n (c ∷ cs) = omega (arith, le_value_after (n * 10 + digit_value c) cs)

-- What follows is of numbers below `most`: from 10 on the decimal text of each is that of all its digits but the last, and then the last digit.
module _ (most : ℕ) (wide : (n : ℕ) → 10 ≤ n → n < most → decimal n ≡ decimal (n / 10) ++ ((48 + n % 10) ∷ [])) where
  -- the decimal text of a number with more digits after it is its decimal text and these digits
  decimal_after : (n : ℕ) (ds : List ℕ) → 0 < n → AllDigits 10 ds → digits_value_after 10 n ds < most → decimal (digits_value_after 10 n ds) ≡ decimal n ++ ds
  decimal_after n [] some d small = sym (append-nil (decimal n))
  decimal_after n (c ∷ cs) some d small =
      -- m is n with its next digit c, of the value k; the text of m is that of n and the byte c, and the other digits cs come after m
      let m : ℕ = n * 10 + digit_value c in
      let k = digit_value_digit c (digit_from_value c d.0) in
      let front : m / 10 ≡ n = omega (arith, d.0) in
      let end : 48 + m % 10 ≡ c = omega (arith, d.0) in
      decimal_after m cs (omega arith) d.1 small
      ∙ ap (λ x. x ++ cs) (wide m (omega arith) (omega (arith, le_value_after m cs)) ∙ (λ i. decimal (front i) ++ (end i ∷ [])))
      ∙ append_assoc (decimal n) (c ∷ []) cs

  -- digits that do not begin with a 0, but for 0 itself, are the decimal text of their value
  decimal_digits : (ds : List ℕ) → AllDigits 10 ds → 0 < length ds → (get_or ds 0 0 ≡ 48 → length ds ≡ 1) → digits_value 10 ds < most → decimal (digits_value 10 ds) ≡ ds
  decimal_digits [] d some lead small = absurd (omega arith)
  decimal_digits (c ∷ []) d some lead small =
      let k = digit_value_digit c (digit_from_value c d.0) in
      decimal_digit (0 * 10 + digit_value c) (omega (arith, d.0)) ∙ ap (λ x. x ∷ []) (omega arith)
  -- the first of several digits is not 0, so the decimal text begins with it
  decimal_digits (c ∷ e ∷ cs) d some lead small =
      let k = digit_value_digit c (digit_from_value c d.0) in
      let no : c ≡ 48 → ⊥ = λ z. omega (arith, lead z) in
      let is : 48 + (0 * 10 + digit_value c) ≡ c = omega arith in
      decimal_after (0 * 10 + digit_value c) (e ∷ cs) (omega arith) d.1 small
      ∙ ap (λ x. x ++ (e ∷ cs)) (decimal_digit (0 * 10 + digit_value c) (omega (arith, d.0)) ∙ ap (λ x. x ∷ []) is)

-- a number of at most 63 digits is the decimal text of its value
pub decimal-number : (text : List ℕ) (n : ℕ) → length text ≤ 63 → IsNumber text n → text ≡ decimal n
decimal-number text n short is =
    let low : digits_value 10 text < 10 ^ length text = digits_value-lt 10 text is.digits.1 in
    let power : 10 ^ length text ≤ 10 ^ 63 = powers (length text) 63 short in
    let top : 10 ^ 63 ≤ 10 ^ 64 = powers 63 64 (omega arith) in
    sym (ap decimal is.value ∙ decimal_digits (10 ^ 64) decimal_step_wide text is.digits.1 is.digits.0 is.plain (omega (arith, low, power, top)))

-- the text ds has a digit, and its first one is not 0 where n is above 0
record Leads (n : ℕ) (ds : List ℕ) : Type 0 where
  some : 1 ≤ length ds
  first : 1 ≤ n → 49 ≤ get_or ds 0 0

-- the first digit of the decimal text of a number above 0 is not 0
leads : (n : ℕ) → n < 10 ^ 64 → Leads n (decimal n)
leads = decimal_by_steps_wide Leads one more
  where
    -- one digit leads its own text
    one : (n : ℕ) → n < 10 → Leads n ((48 + n) ∷ [])
    one n low = record { some = omega arith; first = λ above. omega arith }

    -- a further digit at the end leaves the first one as it is
    more : (n : ℕ) (ds : List ℕ) → 10 ≤ n → Leads (n / 10) ds → Leads n (ds ++ ((48 + n % 10) ∷ []))
    more n ds high is = record {
      some = omega (arith, length-append ds ((48 + n % 10) ∷ []), is.some);
      first = λ above. omega (arith, get_or-append ds ((48 + n % 10) ∷ []) 0 0 is.some, is.first (omega arith));
    }

-- the decimal text of a number below 10^64 is a number of a log
pub number-decimal : (n : ℕ) → n < 10 ^ 64 → IsNumber (decimal n) n
number-decimal n low =
    let is = decimal_is_IsNumeral_wide n low in
    record { digits = is.0; plain = plain; value = sym is.1 }
  where
    -- the text of a number begins with 0 only if it has this one digit
    plain : get_or (decimal n) 0 0 ≡ digit_zero → length (decimal n) ≡ 1
    plain zero_first = elim (cases_lt 0 n) as (λ _. length (decimal n) ≡ 1) [
      -- the text of a number above 0 begins with no 0, and that of 0 is one digit
      | inl above ↦ absurd (omega (arith, (leads n low).first above, zero_first))
      | inr none ↦ let z : n ≡ 0 = omega arith in ap (λ m. length (decimal m)) z ∙ ap length (decimal_digit 0 (omega arith))
    ]

-- a number of at least 10^k adds k digits or more to those after it
long : (k n : ℕ) (acc : List ℕ) → 10 ^ k ≤ n → k + length acc ≤ length (digits_onto k 10 false n acc)
long zero n acc high = omega arith
long (suc k) n acc high =
    -- the digits of n but the last, n / 10, are at least 10^k too, so that they are not 0 (`some`), and add k digits; the last one adds one more (`step`)
    let up : 10 ^ k ≤ n / 10 = omega (arith, pow-succ' 10 k, high) in
    let one : 10 ^ 0 ≤ 10 ^ k = powers 0 k (omega arith) in
    let some : n / 10 ≡ 0 → ⊥ = λ none. omega (arith, pow-zero 10, one, up, none) in
    let rest = long k (n / 10) (digit_glyph false (n % 10) ∷ acc) up in
    let step : digits_onto (suc k) 10 false n acc ≡ digits_onto k 10 false (n / 10) (digit_glyph false (n % 10) ∷ acc) =
    ap (λ (b : Bool). if b then digit_glyph false (n % 10) ∷ acc else digits_onto k 10 false (n / 10) (digit_glyph false (n % 10) ∷ acc)) (ne_eqb _ 0 some) in
    subst (λ (t : List ℕ). suc k + length acc ≤ length t) (sym step) (omega (arith, rest))

-- the decimal text of a number is made by adding its digits to an empty text
from_nil : (n : ℕ) → digits_onto 64 10 false n [] ≡ decimal n
unfolding digits
from_nil n = refl

-- a number whose decimal text has at most 63 digits is below 10^64
pub decimal-short : (n : ℕ) → length (decimal n) ≤ 63 → n < 10 ^ 64
decimal-short n short = elim (cases_lt n (10 ^ 64)) as (λ _. n < 10 ^ 64) [
  -- a number of 10^64 or more would have at least 64 digits, by `long`
  | inl low ↦ low
  | inr high ↦ absurd (omega (arith, long 64 n [] high, ap length (from_nil n), short))
]
