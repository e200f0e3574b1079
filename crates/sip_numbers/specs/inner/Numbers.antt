use Rattle.std.specs.Prelude.{◌≡◌, ◌<◌, ◌≤◌, ◌^◌, ℕ, true, false, List, All, AllPairs, length}
use Rattle.std.specs.List.{AllWithin}
use Rattle.sip_numbers.specs.Numbers.{has_bit}
use Rattle.sip_numbers.specs.declared.numbers.Word.{Word}

-- The words of a set of numbers, in order.

-- the blocks of the words rise, and are blocks of the code's numbers
pub record AreWords (words : List Word) : Type 0 where
  pub rise : AllPairs (λ a b. a.block < b.block) words
  pub small : All (λ word. word.block < 2 ^ 58) words

-- the words before `at` are of lesser blocks than this one, those from `at` to `next` are of it, and those from `next` on are of greater ones
pub record IsPlaceFor (words : List Word) (block at next : ℕ) : Type 0 where
  pub within : next ≤ length words
  pub before : AllWithin (λ word. word.block < block) words 0 at
  pub there : AllWithin (λ word. word.block ≡ block) words at next
  pub after : AllWithin (λ word. block < word.block) words next (length words)

-- `number` is the first number from `from` on that the word has
pub record IsFirstOf (word : Word) (from number : ℕ) : Type 0 where
  pub is : has_bit number word ≡ true
  pub after : from ≤ number
  pub none_before : (n : ℕ) → from ≤ n → n < number → has_bit n word ≡ false
