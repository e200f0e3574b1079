-- One bit of a word, through the operations that join two words.
use Rattle.std.proofs.Common.{◌≡◌, ℕ, zero, suc, ◌+◌, ◌-◌, ◌*◌, ◌/◌, ◌%◌, ◌^◌, ◌<◌, max, min, Bool, true, false, ◌&&◌, ◌||◌, ◌==◌, List, get_or, cond, refl, sym, ap, ◌∙◌, arith}
use Rattle.std.specs.Int.{bit_at}
use Rattle.std.proofs.lemmas.Bool.{agree_below_at}
use Rattle.std.proofs.lemmas.Nat.{pow_pos}
use Rattle.std.proofs.lemmas.Nat.Bits.{bit_at-lt, bit_at-zero, bit_at_or, bit_at_and, bit_at_above, bit_at_cat_low, bit_at_cat_high}
use Rattle.std.proofs.lemmas.Simd.{bit_mask_l}
use lib.Bits.{bit_and, bit_or}
use lib.Lanes.{mask_l}
use Rattle.sip_masks.specs.Bits.{test}

-- what holds of 0 and of 1 holds of a number below 2
by-bit : (P : ℕ → Type 0) (n : ℕ) → n < 2 → P 0 → P 1 → P n
by-bit P zero small none one = none
by-bit P (suc zero) small none one = one
by-bit P (suc (suc n)) small none one = absurd (omega (arith, small))

-- bit i of a word that two are joined to by `or` is set exactly if it is set in one of them
pub test-or : (a b i : ℕ) → test (bit_or a b) i ≡ (test a i || test b i)
unfolding test
test-or a b i =
    -- the bit of the OR is the greater of the two bits, each of which is 0 or 1
    ap (λ n. n == 1) (bit_at_or a b i)
    ∙ by-bit (λ x. (max x (bit_at b i) == 1) ≡ ((x == 1) || (bit_at b i == 1))) (bit_at a i) (bit_at-lt a i)
    (by-bit (λ y. (max 0 y == 1) ≡ (y == 1)) (bit_at b i) (bit_at-lt b i) refl refl)
    (by-bit (λ y. (max 1 y == 1) ≡ true) (bit_at b i) (bit_at-lt b i) refl refl)

-- bit i of a word that two are joined to by `and` is set exactly if it is set in both
pub test-and : (a b i : ℕ) → test (bit_and a b) i ≡ (test a i && test b i)
unfolding test
test-and a b i =
    -- the bit of the AND is the lesser of the two bits, each of which is 0 or 1
    ap (λ n. n == 1) (bit_at_and a b i)
    ∙ by-bit (λ x. (min x (bit_at b i) == 1) ≡ ((x == 1) && (bit_at b i == 1))) (bit_at a i) (bit_at-lt a i)
    (by-bit (λ y. (min 0 y == 1) ≡ false) (bit_at b i) (bit_at-lt b i) refl refl)
    (by-bit (λ y. (min 1 y == 1) ≡ (y == 1)) (bit_at b i) (bit_at-lt b i) refl refl)

-- the lowest bit of 1 is set
pub test-one_low : test 1 0 ≡ true
unfolding test
test-one_low = refl

-- of the number 1 only bit 0 is set
pub test-one_high : (i : ℕ) → test 1 (suc i) ≡ false
unfolding test
test-one_high i = ap (λ n. n == 1) (bit_at_above 1 1 (suc i) (omega arith) (omega arith))

-- the 64 low bits of a number are those of its remainder by 2 ^ 64
pub test-low : (n i : ℕ) → i < 64 → test (n % 2 ^ 64) i ≡ test n i
unfolding test
test-low n i below =
    let parts : n / 2 ^ 64 * 2 ^ 64 + n % 2 ^ 64 ≡ n = omega arith in
    ap (λ b. b == 1) (sym (bit_at_cat_low (n / 2 ^ 64) 64 (n % 2 ^ 64) i below) ∙ ap (λ m. bit_at m i) parts)

-- a word of 64 bits, moved up by k bits
abbrev pub shl : ℕ → ℕ → ℕ
shl k y = y * 2 ^ k % 2 ^ 64

-- bit k + j of a word that was moved up by k bits is bit j of the word
pub test-shl_high : (k j y : ℕ) → k + j < 64 → test (shl k y) (k + j) ≡ test y j
unfolding test
test-shl_high k j y below =
    -- what was moved up has k zeros below it, so place k + j of it is place j of y
    let place : k + j - k ≡ j = omega arith in
    let none : y * 2 ^ k ≡ y * 2 ^ k + 0 = omega arith in
    test-low (y * 2 ^ k) (k + j) below
    ∙ ap (λ b. b == 1) (ap (λ m. bit_at m (k + j)) none ∙ bit_at_cat_high y k 0 (k + j) (pow_pos k) (omega arith) ∙ ap (bit_at y) place)

-- the k lowest bits of a word that was moved up by k bits are not set
pub test-shl_low : (k i y : ℕ) → i < k → i < 64 → test (shl k y) i ≡ false
unfolding test
test-shl_low k i y before below =
    let none : y * 2 ^ k ≡ y * 2 ^ k + 0 = omega arith in
    test-low (y * 2 ^ k) i below ∙ ap (λ b. b == 1) (ap (λ m. bit_at m i) none ∙ bit_at_cat_low y k 0 i before ∙ bit_at-zero i)

-- bit j + 1 of a word that was moved up by one bit is bit j of the word
pub test-shl_one : (j y : ℕ) → suc j < 64 → test (shl 1 y) (suc j) ≡ test y j
test-shl_one j y below =
    let is : 1 + j ≡ suc j = omega arith in
    ap (test (shl 1 y)) (sym is) ∙ test-shl_high 1 j y (omega (arith, below))

-- bit i of the mask of some lanes is set exactly if lane i is
pub test-mask : (lanes : List Bool) (i : ℕ) → test (mask_l lanes) i ≡ get_or lanes i false
unfolding test
test-mask lanes i = ap (λ b. b == 1) (bit_mask_l lanes i) ∙ is (get_or lanes i false)
  where
    -- a bit that is set is 1, and one that is not set is 0
    is : (b : Bool) → (cond b 1 0 == 1) ≡ b
    is true = refl
    is false = refl

-- each bit of the highest word of 64 bits is set
pub test-ones : (i : ℕ) → i < 64 → test 18446744073709551615 i ≡ true
unfolding test
test-ones i below = agree_below_at (λ j. bit_at 18446744073709551615 j == 1) (λ _. true) 64 i refl below
