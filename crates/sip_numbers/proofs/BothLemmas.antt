-- Numbers that one set has, that another has too, and that a third has not.
use Rattle.std.proofs.Common.{◌≡◌, ℕ, ◌+◌, ◌-◌, ◌/◌, ◌%◌, ◌^◌, ◌<◌, ◌≤◌, Bool, true, false, not, ◌&&◌, List, length, take, get_or, bit_and, sym, ap, ◌∙◌, arith, w64}
use Rattle.std.proofs.lemmas.Bool.{and_parts}
use Rattle.std.proofs.lemmas.Bool.Decides.{nat_tests}
use Rattle.std.proofs.lemmas.List.Folds.{list_any_at, list_any_more}
use Rattle.std.proofs.lemmas.Nat.Bits.{bit_at-lt, bit_at_not}
use Rattle.sip_masks.specs.Bits.{test}
use Rattle.sip_masks.proofs.BitLemmas.{test-and}
use Rattle.sip_numbers.specs.Numbers.{IsFirstInBoth, NoneInBoth, has_bit, numbers_of}
use Rattle.sip_numbers.specs.declared.numbers.Word.{Word}
use Rattle.sip_numbers.specs.inner.Numbers.{AreWords, IsFirstOf}
use Rattle.sip_numbers.proofs.PlaceLemmas.{up-to}

-- whether the second set has the number, and the third has not
abbrev pub wanted : List Word → List Word → ℕ → Bool
wanted other but n = numbers_of other n && not (numbers_of but n)

-- the word without the bits that `its` has not, and without those that `out` has
abbrev left_of : Word → ℕ → ℕ → Word
left_of word its out = record { block = word.block; bits = bit_and (bit_and word.bits its) (18446744073709551615 - out) }

-- What follows is of the word at `at`, where no wanted number is in those before it, and of the bits of its block in the other sets.
module _ (words other but : List Word) (from at : ℕ) {word : Word} (d : Word) (its out : ℕ)
    (passed : NoneInBoth (numbers_of (take at words)) (wanted other but) from)
    (within : at < length words) (is : word ≡ get_or words at d) (small : out < 2 ^ 64)
    (tells : (n : ℕ) → n / 64 ≡ word.block → test its (n % 64) ≡ numbers_of other n)
    (tells_out : (n : ℕ) → n / 64 ≡ word.block → test out (n % 64) ≡ numbers_of but n) where
  -- the wanted numbers of the word are those whose bits are left
  has-left : (n : ℕ) → has_bit n (left_of word its out) ≡ (has_bit n word && wanted other but n)
  unfolding test
  has-left n = grind (arith, nat_tests, test-and, bit_at_not w64 out (n % 64) small, bit_at-lt out (n % 64), tells n, tells_out n)

  -- no word up to this one has a wanted number that is none of these
  pub more : (n : ℕ) → from ≤ n → has_bit n (left_of word its out) ≡ false → numbers_of (take (at + 1) words) n ≡ true → ¬ (wanted other but n ≡ true)
  unfolding numbers_of
  more n after none has is_wanted =
      grind (arith, nat_tests, has-left n, none, is_wanted, passed n after, ap (has_bit n) is, sym (list_any_more (has_bit n) words at d within) ∙ has)

  -- the first of these is the first wanted number
  pub first-left : {number : ℕ} → AreWords words → IsFirstOf (left_of word its out) from number →
      IsFirstInBoth (numbers_of words) (wanted other but) from number
  unfolding numbers_of
  first-left {number} in_order first =
      let has = and_parts (has_bit number word) (wanted other but number) (sym (has-left number) ∙ first.is) in
      let block : word.block ≡ number / 64 = grind (arith, nat_tests, has.0) in
      record {
        in_one = list_any_at (has_bit number) words at d within (ap (has_bit number) (sym is) ∙ has.0);
        in_other = has.1;
        after = first.after;
        none_before = λ n after before has.
            more n after (first.none_before n after before) (sym (up-to d in_order within n (omega (arith, before, block, ap (λ (w : Word). w.block) is))) ∙ has);
      }
