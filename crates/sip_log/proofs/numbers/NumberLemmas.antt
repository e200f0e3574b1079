-- Lemmas of the numbers of a log: which bytes they have, and how many.
-- In the lemmas n and n2 are numbers, k a number of digits, and c and cs, or ds, the first digit of a text and the others.
use Rattle.std.proofs.Common.{◌≡◌, ◌<◌, ◌≤◌, ◌+◌, ◌*◌, ◌^◌, inl, inr, ℕ, List, [], ◌∷◌, length, subst, sym, ap, ◌∙◌, arith}
use Rattle.std.proofs.lemmas.Bool.{cases_lt}
use Rattle.std.specs.Int.{IsInRange}
use Rattle.std.specs.Char.{digit_value}
use Rattle.std.specs.Str.Parse.{digits_value, digits_value_after}
use Rattle.std.proofs.lemmas.Str.{digit_value_digit}
use Rattle.std.proofs.lemmas.Str.Parse.{digit_at, digit_from_value}
use Rattle.std.proofs.Math.Nat.{pow-le-pow_right, le-mul_of_pos_right}
use native.Mathlib.Nat.{pow-zero, pow-succ'}
use Rattle.sip_standard.specs.LogSays.{line_feed}
use Rattle.sip_log.specs.inner.Spelling.{space}
use Rattle.sip_log.specs.inner.Number.{IsNumber, digit_zero}
use Rattle.sip_log.proofs.lines.SplitLemmas.{Lacks}

-- a byte that is no digit is not in the text of a number
pub IsNumber-lacks : (m : ℕ) (text : List ℕ) (n : ℕ) → ¬ (IsInRange 48 57 m) → IsNumber text n → Lacks m text
IsNumber-lacks m text n other is = record { nowhere = λ k inside same. other (subst (IsInRange 48 57) same (digit_at text k is.digits.1 inside)) }

-- the text of a number has no blank
pub IsNumber-no_space : (text : List ℕ) (n : ℕ) → IsNumber text n → Lacks space text
IsNumber-no_space text n is = IsNumber-lacks space text n (λ within. omega arith) is

-- the text of a number has no line feed
pub IsNumber-no_line_feed : (text : List ℕ) (n : ℕ) → IsNumber text n → Lacks line_feed text
IsNumber-no_line_feed text n is = IsNumber-lacks line_feed text n (λ within. omega arith) is

-- equal texts are the text of one number
pub IsNumber-one : (text text2 : List ℕ) (n n2 : ℕ) → text ≡ text2 → IsNumber text n → IsNumber text2 n2 → n ≡ n2
IsNumber-one text text2 n n2 same is is2 = is.value ∙ ap (digits_value 10) same ∙ sym is2.value

-- k digits after a number make a value of at least that number times 10^k
after-ge : (n : ℕ) (ds : List ℕ) → 10 ^ length ds * n ≤ digits_value_after 10 n ds
after-ge n [] = omega (arith, ap (λ x. x * n) (pow-zero 10))
after-ge n (c ∷ cs) =
    let more = after-ge (n * 10 + digit_value c) cs in
    omega (arith, ap (λ x. x * n) (pow-succ' 10 (length cs)), more)

-- the text of a number below 10^k has at most k bytes
pub IsNumber-short : (text : List ℕ) (n k : ℕ) → 1 ≤ k → n < 10 ^ k → IsNumber text n → length text ≤ k
IsNumber-short [] n k some low is = omega arith
IsNumber-short (c ∷ cs) n k some low is = elim (cases_lt 0 (digit_value c)) as (λ _. length (c ∷ cs) ≤ k) [
  -- the first digit is 0, so it is the whole text
  | inr none ↦
      let first : c ≡ digit_zero = omega (arith, digit_value_digit c (digit_from_value c is.digits.1.0), none) in
      omega (arith, is.plain first)
  -- the first digit is not 0: with k digits after it the number would be at least 10^k
  | inl more ↦ elim (cases_lt (length cs) k) as (λ _. length (c ∷ cs) ≤ k) [
    | inl short ↦ omega arith
    | inr long ↦
        -- more than k digits, of which the first is not 0, make a number of at least 10^k
        let power : 10 ^ k ≤ 10 ^ length cs = pow-le-pow_right (omega arith) long in
        let times : 10 ^ length cs ≤ 10 ^ length cs * digit_value c = le-mul_of_pos_right (10 ^ length cs) more in
        let front : 0 * 10 + digit_value c ≡ digit_value c = omega arith in
        let value : n ≡ digits_value_after 10 (digit_value c) cs = is.value ∙ ap (λ x. digits_value_after 10 x cs) front in
        absurd (omega (arith, after-ge (digit_value c) cs))
  ]
]
