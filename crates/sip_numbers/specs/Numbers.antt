use Rattle.std.specs.Prelude.{◌≡◌, ◌<◌, ◌≤◌, ◌==◌, ◌&&◌, ◌/◌, ◌%◌, ℕ, Bool, true, List}
use Rattle.std.specs.List.{list_any}
use Rattle.sip_numbers.specs.declared.numbers.Word.{Word}
use Rattle.sip_masks.specs.Bits.{test}

-- Sets of numbers, as words each of which has a bit for each of 64 numbers in a row, and as tests that tell which numbers are in them.

-- whether the word has the number: it is of the block of 64 numbers in which the number is, and the bit of the number is set
abbrev pub has_bit : ℕ → Word → Bool
has_bit number word = word.block == number / 64 && test word.bits (number % 64)

-- whether one of the words has the number
unfoldable pub numbers_of : List Word → ℕ → Bool
numbers_of words number = list_any (has_bit number) words

-- `number` is the first number from `from` on that both tests pass
pub record IsFirstInBoth (one other : ℕ → Bool) (from number : ℕ) : Type 0 where
  pub in_one : one number ≡ true
  pub in_other : other number ≡ true
  pub after : from ≤ number
  pub none_before : (n : ℕ) → from ≤ n → n < number → one n ≡ true → ¬ (other n ≡ true)

-- no number from `from` on passes both tests
abbrev pub NoneInBoth : (ℕ → Bool) → (ℕ → Bool) → ℕ → Type 0
NoneInBoth one other from = (n : ℕ) → from ≤ n → one n ≡ true → ¬ (other n ≡ true)
