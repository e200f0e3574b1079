-- One word: what its bits tell of each number, after one of them is set or cleared, and from one of them on.
use Rattle.std.proofs.Common.{◌≡◌, ◌≢◌, ℕ, ◌+◌, ◌-◌, ◌*◌, ◌/◌, ◌%◌, ◌^◌, ◌<◌, ◌≤◌, Bool, true, false, cond, ◌==◌, bit_and, bit_or, ◌∙◌, arith, w64}
use Rattle.std.specs.Int.{trailing_zeros}
use Rattle.std.proofs.lemmas.Bool.{and_right}
use Rattle.std.proofs.lemmas.Bool.Decides.{nat_tests}
use Rattle.std.proofs.lemmas.Nat.Bits.{bit_at_set_same, bit_at_set_other, bit_at_clear_same, bit_at_clear_other}
use Rattle.sip_masks.specs.Bits.{test}
use Rattle.sip_masks.proofs.BitLemmas.{shl, test-shl_high, test-shl_low}
use Rattle.sip_masks.proofs.RunLemmas.{lowest-set, none-set}
use Rattle.sip_masks.proofs.WordLemmas.{test-shr}
use Rattle.sip_numbers.specs.Numbers.{has_bit}
use Rattle.sip_numbers.specs.declared.numbers.Word.{Word}
use Rattle.sip_numbers.specs.inner.Numbers.{IsFirstOf}

-- a word without bits does not have the number
pub has-none : (n : ℕ) (word : Word) → word.bits ≡ 0 → has_bit n word ≡ false
has-none n word none = and_right (word.block == n / 64) (test word.bits (n % 64)) (none-set word.bits (n % 64) none)

-- a bit of a word after the bit at `place` is set
pub test-put : (bits place i : ℕ) → place < 64 → test (bit_or bits (1 * 2 ^ place % 18446744073709551616)) i ≡ cond (i == place) true (test bits i)
unfolding test
test-put bits place i small = grind (arith, nat_tests, bit_at_set_same w64 bits place small, bit_at_set_other w64 bits place small i)

-- a bit of a word after the bit at `place` is cleared
pub test-taken : (bits place i : ℕ) → place < 64 → i < 64 →
    test (bit_and bits (18446744073709551615 - 1 * 2 ^ place % 18446744073709551616)) i ≡ cond (i == place) false (test bits i)
unfolding test
test-taken bits place i small below = grind (arith, nat_tests, bit_at_clear_same w64 bits place small, bit_at_clear_other w64 bits place small i below)

-- the bits of the word without those of lesser numbers than `from`
abbrev pub bits_from : Word → ℕ → ℕ
bits_from word from = shl (from - 64 * word.block) (word.bits / 2 ^ (from - 64 * word.block))

-- What follows is of a word and a number that is not after all numbers of its block.
module _ (word : Word) (from : ℕ) (within : from - 64 * word.block < 64) where
  -- with these bits the word has the same numbers from `from` on
  has-left : (n : ℕ) → from ≤ n → has_bit n word ≡ has_bit n record { block = word.block; bits = bits_from word from }
  has-left n after =
      let low = from - 64 * word.block in
      let above = test-shl_high low (n % 64 - low) (word.bits / 2 ^ low) in
      grind (arith, nat_tests, above, test-shr word.bits low (n % 64 - low))

  -- where none of them is set, the word has no number from `from` on
  pub none-from : bits_from word from ≡ 0 → (n : ℕ) → from ≤ n → has_bit n word ≡ false
  none-from none n after = has-left n after ∙ has-none n _ none

  -- the lowest of them that is set is that of the first number
  pub first-of : {place : ℕ} → bits_from word from ≢ 0 → place ≡ trailing_zeros w64 (bits_from word from) → IsFirstOf word from (64 * word.block + place)
  first-of {place} some place_is =
      let low = from - 64 * word.block in
      let found = rw (← place_is) at (lowest-set (bits_from word from) (omega (arith, some)) (omega arith)) in
      let from_low : low ≤ place = grind (arith, test-shl_low low place (word.bits / 2 ^ low), found.0, found.1) in
      record {
        is = has-left (64 * word.block + place) (omega (arith, from_low)) ∙ grind (arith, nat_tests, found.0, found.1);
        after = omega (arith, from_low);
        none_before = λ n from_n before. has-left n from_n ∙ grind (arith, nat_tests, found.0, found.2 (n % 64));
      }

-- what tells that a word has no number from one on
pub ruleset none = (has-none, none-from)
