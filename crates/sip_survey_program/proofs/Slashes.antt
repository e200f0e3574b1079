-- A word of two numbers with a slash between them is split at the slash.
use Rattle.std.proofs.Common.{◌≡◌, ◌≢◌, ◌<◌, ◌+◌, ◌%◌, ◌^◌, ◌∙◌, ℕ, Bool, true, false, not, cond, nat_eq, List, [], ◌∷◌, ◌++◌, length, take, drop, get_or, refl, ap, arith}
use Rattle.std.specs.Prelude.{decimal}
use Rattle.std.specs.List.{position_or_len, before_first, after_first}
use Rattle.std.proofs.Math.Seq.{take-append_seam, drop-append-add}
use Rattle.std.proofs.lemmas.Bool.{eqb-true}
use Rattle.std.proofs.lemmas.List.{length-append}
use Rattle.std.proofs.lemmas.Fmt.{decimal_by_steps}
use Rattle.std.proofs.lemmas.List.Sums.{split_at_first, prefix_len_stops}
use Rattle.sip_text.proofs.texts.LacksLemmas.{Lacks, lacks-append}

-- whether a byte is a slash
abbrev pub is_slash : ℕ → Bool
is_slash b = nat_eq b 47

-- no digit is a slash
digit_lacks : (d : ℕ) → nat_eq (48 + d) 47 ≡ false
digit_lacks d = by (nat_eq (48 + d) 47) refl
  where
    -- the byte of a digit d is not that of a slash, since 48 + d would be 47
    by : (b : Bool) → nat_eq (48 + d) 47 ≡ b → nat_eq (48 + d) 47 ≡ false
    by true e = let same = eqb-true (48 + d) 47 e in absurd (omega (arith, same))
    by false e = e

-- a number in digits has no slash
-- by steps: a number below 10 is one digit, and a greater one is its front and its last digit
decimal_lacks : (n : ℕ) → n < 2 ^ 64 → Lacks 47 (decimal n)
decimal_lacks n low = decimal_by_steps (λ m ds. Lacks 47 ds) (λ m few. (digit_lacks m, tt)) (λ m ds many lacks. lacks-append 47 ds ((48 + m % 10) ∷ []) lacks (digit_lacks (m % 10), tt)) n low

-- where a text without a slash stands before a slash, the first slash stands at the text's length
-- `xs` is the text before the slash and `ys` the text after it
slash_at : (xs ys : List ℕ) → Lacks 47 xs → position_or_len is_slash (xs ++ 47 ∷ ys) ≡ length xs
slash_at [] ys lacks = refl
slash_at (x ∷ xs) ys (other, lacks) =
    let on = slash_at xs ys lacks in
    ap (λ b. cond (not b) (1 + position_or_len is_slash (xs ++ 47 ∷ ys)) 0) other ∙ omega (arith, on)

-- What follows is of a word of two numbers, k and n, with a slash between them (the byte 47).
module _ (k n : ℕ) (low : k < 2 ^ 64) where
  -- the first slash of K/N comes right after K
  at : position_or_len is_slash (decimal k ++ 47 ∷ decimal n) ≡ length (decimal k)
  at = slash_at (decimal k) (decimal n) (decimal_lacks k low)

  -- what stands before the slash of K/N is K
  pub number_before : before_first is_slash (decimal k ++ 47 ∷ decimal n) ≡ decimal k
  number_before = ap (λ i. take i (decimal k ++ 47 ∷ decimal n)) at ∙ take-append_seam (decimal k) (47 ∷ decimal n)

  -- what stands after the slash of K/N is N
  pub number_after : after_first is_slash (decimal k ++ 47 ∷ decimal n) ≡ decimal n
  number_after = ap (λ i. drop (i + 1) (decimal k ++ 47 ∷ decimal n)) at ∙ drop-append-add (decimal k) (47 ∷ decimal n) 1

  -- K/N has a slash
  pub has_slash : position_or_len is_slash (decimal k ++ 47 ∷ decimal n) ≢ length (decimal k ++ 47 ∷ decimal n)
  has_slash same = let long = length-append (decimal k) (47 ∷ decimal n) in let here = at in omega (arith, long, here, same)

-- a word with a slash is the part before its first slash, the slash, and the part after it
pub split_slash : (word : List ℕ) → position_or_len is_slash word < length word → word ≡ before_first is_slash word ++ 47 ∷ after_first is_slash word
split_slash word within =
    let found = prefix_len_stops (λ b. not (is_slash b)) word 0 within in
    split_at_first is_slash word 0 within ∙ ap (λ b. before_first is_slash word ++ b ∷ after_first is_slash word) (by (get_or word (position_or_len is_slash word) 0) found)
  where
    -- a byte that stops the first part is a slash
    by : (b : ℕ) → not (is_slash b) ≡ false → b ≡ 47
    by b is = or_not (is_slash b) refl is
      where
        -- a byte that the test calls a slash is one, and any other one does not stop the part
        or_not : (t : Bool) → is_slash b ≡ t → not t ≡ false → b ≡ 47
        or_not true e fails = eqb-true b 47 e
        or_not false e fails = absurd (cc)
