-- Words in order, after the word at a place is put in, changed or taken out.
use Rattle.std.proofs.Common.{◌≡◌, ◌≢◌, ℕ, ◌+◌, ◌-◌, ◌*◌, ◌/◌, ◌%◌, ◌^◌, ◌<◌, ◌≤◌, Bool, true, false, cond, ◌==◌, ◌||◌, List, ◌++◌, length, take, drop, get_or, set, suc, add-one, refl, sym, ap, ◌∙◌, Result, Ok, Err, MatchResult, subst, arith, nat_lt}
use Rattle.std.specs.List.{All, AllWithin, HoldsAt, insert, remove}
use Rattle.std.specs.Bool.{OnTrue}
use Rattle.std.specs.List.Sorted.{IsBinarySearchResult, IsNonDecreasingBy, IsSearchInRange}
use Rattle.std.specs.Ordering.{nat_cmp, ordering_index}
use Rattle.std.proofs.lemmas.Cmp.{ranked}
use Rattle.std.proofs.Math.Bool.{or-false}
use Rattle.std.proofs.lemmas.Bool.{OnTrue_from, cases_lt}
use Rattle.std.proofs.lemmas.Grind.{elements}
use Rattle.std.proofs.lemmas.Bool.Decides.{nat_tests}
use Rattle.std.proofs.lemmas.List.{get_or_default, set-get_or, set_split, take-append-drop}
use Rattle.std.proofs.lemmas.List.Sorted.{IsPermutation-insert, IsPermutation-middle, list_any-IsPermutation}
use Rattle.std.proofs.lemmas.List.Folds.{list_any-append, list_any_none}
use Rattle.sip_masks.specs.Bits.{test}
use Rattle.sip_masks.proofs.RunLemmas.{none-set}
use Rattle.sip_numbers.specs.Numbers.{has_bit, numbers_of}
use Rattle.sip_numbers.specs.declared.numbers.Word.{Word}
use Rattle.sip_numbers.specs.inner.Numbers.{AreWords, IsPlaceFor}
use Rattle.sip_numbers.proofs.WordLemmas.{has-none, test-put, test-taken}

-- What follows is of the place of a block among words in order.
module _ {words : List Word} (block : ℕ) (in_order : AreWords words) where
  -- the blocks of the words do not fall
  rise : IsNonDecreasingBy (λ word. word.block) words
  rise = grind (arith, cases_lt, in_order.rise)

  -- where a word is of the block, its place is that of the block
  pub place-of : {at : ℕ} → at < length words → HoldsAt (λ word. word.block ≡ block) words at → IsPlaceFor words block at (at + 1)
  place-of {at} within is = record {
    within = omega arith;
    before = λ k d from below. omega (arith, is d, in_order.rise k at d below within);
    there = λ k d from below. subst (λ i. (get_or words i d).block ≡ block) {x = at} (omega (arith, from, below)) (is d);
    after = λ k d from below. omega (arith, is d, in_order.rise at k d (omega (arith, from)) below);
  }

  -- where the word before a place is of a lesser block, all before it are
  pub lesser : (at : ℕ) → at ≢ 0 → at ≤ length words →
      OnTrue (nat_lt (get_or words (at - 1) record { block = 0; bits = 0 }).block block) (AllWithin (λ word. word.block < block) words 0 at)
  lesser at some within =
      let none : Word = record { block = 0; bits = 0 } in
      OnTrue_from (nat_lt (get_or words (at - 1) none).block block) (AllWithin (λ (word : Word). word.block < block) words 0 at)
      (λ is k d from below. grind (arith, nat_tests, get_or_default, rise k (at - 1) none))

  -- where the word at the place is besides of a greater block, no word is of the block
  pub left-out : {at : ℕ} → AllWithin (λ word. word.block < block) words 0 at → at < length words → HoldsAt (λ word. block < word.block) words at →
      IsPlaceFor words block at at
  left-out {at} less within greater = record {
    within = omega arith;
    before = less;
    there = λ k d from below. absurd (omega (arith, from, below));
    after = λ k d from below. omega (arith, greater d, rise at k d from below);
  }

  -- a search by halves ends at the place of the block
  pub searched : (found : Result ℕ ℕ) → IsSearchInRange found (length words) → IsBinarySearchResult (λ word. nat_cmp word.block block) words found →
      MatchResult found (λ at. IsPlaceFor words block at (at + 1)) (λ at. IsPlaceFor words block at at)
  searched (Ok at) within equal = place-of within (λ d. ranked _ block _ (sym (equal d)))
  searched (Err at) within parted =
      let compared : IsNonDecreasingBy (λ word. ordering_index (nat_cmp word.block block)) words =
      λ i j d order below. (let blocks = rise i j d order below in grind (arith, nat_tests)) in
      record {
        within = within;
        before = λ k d from below. ranked _ block _ (sym ((parted compared).0 k d from below));
        there = λ k d from below. absurd (omega (arith, from, below));
        after = λ k d from below. ranked _ block _ (sym ((parted compared).1 k d from below));
      }

-- words of other blocks do not have the number
pub none-has : (n : ℕ) (words : List Word) → All (λ word. word.block ≢ n / 64) words → numbers_of words n ≡ false
unfolding numbers_of
none-has n words others = list_any_none (has_bit n) words (λ k d below. grind (arith, nat_tests, others k d below))

-- a number of the block of a word, or of a lesser one, is there only if it is in the words up to this one
pub up-to : {words : List Word} {at : ℕ} (d : Word) → AreWords words → at < length words → (n : ℕ) → n / 64 ≤ (get_or words at d).block →
    numbers_of words n ≡ numbers_of (take (at + 1) words) n
unfolding numbers_of
up-to {words} {at} d in_order within n reached =
    ap (λ ws. numbers_of ws n) (sym (take-append-drop (at + 1) words)) ∙ list_any-append (has_bit n) (take (at + 1) words) (drop (at + 1) words)
    ∙ rw (none-has n (drop (at + 1) words) (λ k e below is. grind (arith, elements, get_or_default, in_order.rise at (at + 1 + k) d)))
    (or-false (numbers_of (take (at + 1) words) n))

-- a number of the block of a place is in no other words
others : {block : ℕ} {words : List Word} {at next : ℕ} → IsPlaceFor words block at next → (n : ℕ) → n / 64 ≡ block →
    numbers_of (take at words ++ drop next words) n ≡ false
others {words = words} {at} {next} place n same =
    none-has n (take at words ++ drop next words) (λ k d below is. grind (arith, cases_lt, elements, place.before k d, place.after (next + (k - at)) d))

-- where one test is the other but for the number, at which it has the value
abbrev pub Changes : ℕ → Bool → (ℕ → Bool) → (ℕ → Bool) → Type 0
Changes number value old new = (n : ℕ) → new n ≡ cond (n == number) value (old n)

-- a word that takes the place of another tells besides the others
has-set : (n : ℕ) (words : List Word) (at : ℕ) (word : Word) → at < length words →
    numbers_of (set words at word) n ≡ (has_bit n word || numbers_of (remove words at) n)
unfolding numbers_of
has-set n words at word within =
    ap (λ ws. numbers_of ws n) (set_split words at word within)
    ∙ list_any-IsPermutation (has_bit n) _ _ (IsPermutation-middle (take at words) word (drop (suc at) words))

-- so words tell what one of them does, and what the others do
pub has-at : (n : ℕ) (words : List Word) (at : ℕ) (word : Word) → at < length words → word ≡ get_or words at word →
    numbers_of words n ≡ (has_bit n word || numbers_of (remove words at) n)
has-at n words at word within read =
    ap (λ ws. numbers_of ws n) (sym (set-get_or words at word) ∙ ap (set words at) (sym read)) ∙ has-set n words at word within

-- the word of a block tells of each number of the block
pub told-there : {words : List Word} {block at : ℕ} → IsPlaceFor words block at (at + 1) → (n : ℕ) (d : Word) → n / 64 ≡ block →
    test (get_or words at d).bits (n % 64) ≡ numbers_of words n
told-there {words} {block} {at} place n d same =
    let word = get_or words at d in
    let within : at < length words = omega (arith, place.within) in
    grind (arith, nat_tests, has-at n words at word within (get_or_default words at d word within), rw (← add-one) at (others place n same), place.there at d)

-- what a place tells
pub ruleset told = (told-there, none-has, none-set, cases_lt)

-- where no word is of the block, and one is put in that has the bit of the number alone, the number is there besides
pub put-new : (number : ℕ) (words : List Word) (at : ℕ) → Changes number true (numbers_of words)
    (numbers_of (insert words at record { block = number / 64; bits = 1 * 2 ^ (number % 64) % 18446744073709551616 }))
unfolding numbers_of
put-new number words at n =
    sym (list_any-IsPermutation (has_bit n) _ _ (IsPermutation-insert words at _))
    ∙ grind (arith, nat_tests, test-put 0 (number % 64) (n % 64) (omega arith), none-set 0 (n % 64) refl)

-- What follows is of the word of the block, and of bits that differ from its bits at most at the place of the number.
module _ (number : ℕ) {words : List Word} {at : ℕ} (place : IsPlaceFor words (number / 64) at (at + 1)) (word : Word) (read : word ≡ get_or words at word)
    (value : Bool) (bits : ℕ) (told : (i : ℕ) → i < 64 → test bits i ≡ cond (i == number % 64) value (test word.bits i)) where
  -- with these bits, the number is there or not, and all others are as they were
  pub written : (other : Word) → other ≡ get_or words at other →
      Changes number value (numbers_of words) (numbers_of (set words at record { block = other.block; bits = bits }))
  written other its n =
      let within : at < length words = omega (arith, place.within) in
      let its_block : other.block ≡ number / 64 = rw (← its) at (place.there at other (omega arith) (omega arith)) in
      let block : word.block ≡ number / 64 = rw (← read) at (place.there at word (omega arith) (omega arith)) in
      has-set n words at _ within
      ∙ grind (arith, nat_tests, has-at n words at word within read, told (n % 64) (omega arith), rw (← add-one) at (others place number refl))

  -- likewise without the word, where none of these bits is set
  pub removed : bits ≡ 0 → Changes number value (numbers_of words) (numbers_of (remove words at))
  removed none n =
      let new : Word = record { block = word.block; bits = bits } in
      sym (has-set n words at new (omega (arith, place.within)) ∙ ap (λ b. b || numbers_of (remove words at) n) (has-none n new none)) ∙ written word read n

-- what the words tell after each change
pub ruleset changes = (put-new, written, removed, test-put, test-taken)
