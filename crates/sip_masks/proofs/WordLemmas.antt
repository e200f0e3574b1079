-- Words of 64 bits, one after the other.
use Rattle.std.proofs.Common.{◌≡◌, ℕ, ◌+◌, ◌-◌, ◌*◌, ◌/◌, ◌%◌, ◌^◌, ◌<◌, ◌≤◌, Bool, true, false, ◌||◌, ◌==◌, List, length, take, get_or, set, bit_or, refl, sym, ap, ap₂, ◌∙◌, subst, inl, inr, arith}
use Rattle.std.proofs.lemmas.Bool.{cases_lt}
use Rattle.std.proofs.lemmas.List.{get_or-set_same, get_or-set_other, get_or_past, get_or-take, length-set, length-take-le}
use Rattle.std.proofs.lemmas.Nat.{shr-shr}
use Rattle.std.proofs.lemmas.Nat.Bits.{bit_at_above}
use Rattle.sip_masks.specs.Bits.{test}
use Rattle.sip_masks.specs.Marks.{BitsTell, words_for}
use Rattle.sip_masks.proofs.BitLemmas.{shl, test-or, test-shl_high, test-shl_low, test-ones}

-- bit j of a number without its lowest r bits is bit r + j of the number
pub test-shr : (x r j : ℕ) → test (x / 2 ^ r) j ≡ test x (r + j)
unfolding test
test-shr x r j = ap (λ n. n % 2 == 1) (shr-shr x r j)

-- a number of 64 bits has no bit set above them
pub test-above : (x i : ℕ) → x < 2 ^ 64 → 64 ≤ i → test x i ≡ false
unfolding test
test-above x i small high = ap (λ n. n == 1) (bit_at_above x 64 i small high)

-- a disjunction with false is its first test
pub or-false : (b : Bool) → (b || false) ≡ b
or-false true = refl
or-false false = refl

-- in the word that x from bit r on and y after it make, bit j is bit r + j of x where that is below 64
pub joined : (x y r j : ℕ) → x < 2 ^ 64 → r < 64 → j < 64 → r + j < 64 → test (bit_or (x / 2 ^ r) (shl (63 - r) (shl 1 y))) j ≡ test x (r + j)
joined x y r j small rl jl low =
    -- bit j of x, moved down by r, is bit r + j of x; y has been moved up so far that it does not reach bit j
    test-or (x / 2 ^ r) (shl (63 - r) (shl 1 y)) j
    ∙ ap₂ (λ a b. a || b) (test-shr x r j) (elim (cases_lt j (63 - r)) [
      -- below 63 - r the move up has left zeros
      | inl before ↦ test-shl_low (63 - r) j (shl 1 y) before jl
      -- bit 63 - r is bit 0 of y moved up by one, which is 0
      | inr at ↦
          let is : 63 - r + 0 ≡ j = omega (arith, at) in
          subst (λ i. test (shl (63 - r) (shl 1 y)) i ≡ false) is (test-shl_high (63 - r) 0 (shl 1 y) (omega arith) ∙ test-shl_low 1 0 y (omega arith) (omega arith))
    ])
    ∙ or-false (test x (r + j))

-- in the word that x from bit r on and y after it make, bit j is bit r + j - 64 of y where r + j is 64 or more
pub joined-next : (x y r j : ℕ) → x < 2 ^ 64 → r < 64 → j < 64 → 64 ≤ r + j → test (bit_or (x / 2 ^ r) (shl (63 - r) (shl 1 y))) j ≡ test y (r + j - 64)
joined-next x y r j small rl jl high =
    -- bit j is past the bits of x, and is bit k of y, which was moved up by 64 - r
    let k = r + j - 64 in
    let is : 63 - r + (1 + k) ≡ j = omega (arith, high) in
    test-or (x / 2 ^ r) (shl (63 - r) (shl 1 y)) j
    ∙ ap₂ (λ a b. a || b) (test-shr x r j ∙ test-above x (r + j) small high)
    (subst (λ i. test (shl (63 - r) (shl 1 y)) i ≡ test y k) is (test-shl_high (63 - r) (1 + k) (shl 1 y) (omega (arith, is, jl)) ∙ test-shl_high 1 k y (omega (arith, is, jl))))

-- the word of 64 bits that begins at place p of a list of words has as its bit j the bit at place p + j of the list
pub from_place : (words : List ℕ) (p j : ℕ) → get_or words (p / 64) 0 < 2 ^ 64 → j < 64 →
    test (bit_or (get_or words (p / 64) 0 / 2 ^ (p % 64)) (shl (63 - p % 64) (shl 1 (get_or words (p / 64 + 1) 0)))) j ≡ test (get_or words ((p + j) / 64) 0) ((p + j) % 64)
from_place words p j small jl =
    let x = get_or words (p / 64) 0 in
    let y = get_or words (p / 64 + 1) 0 in
    let r = p % 64 in
    let rl : r < 64 = omega arith in
    -- the bit lies in the word of the place, or in the next one
    elim (cases_lt (r + j) 64) [
      | inl low ↦
          -- low: the bit r + j is within the word of the place p
          let word : p / 64 ≡ (p + j) / 64 = omega (arith, low) in
          let bit : r + j ≡ (p + j) % 64 = omega (arith, low) in
          joined x y r j small rl jl low ∙ ap₂ (λ w i. test (get_or words w 0) i) word bit
      | inr high ↦
          -- high: it is in the next word, 64 bits on
          let word : p / 64 + 1 ≡ (p + j) / 64 = omega (arith, high, jl) in
          let bit : r + j - 64 ≡ (p + j) % 64 = omega (arith, high, jl) in
          joined-next x y r j small rl jl high ∙ ap₂ (λ w i. test (get_or words w 0) i) word bit
    ]

-- where words tell the first 64 k bytes of a text, and w tells the next 64, the words with w at place k tell the first 64 (k + 1) bytes
pub marks-more : (p : ℕ → Bool) (text words : List ℕ) (k w : ℕ) → k < length words → BitsTell p text words (64 * k) → ((i : ℕ) → i < 64 → test w i ≡ p (get_or text (64 * k + i) 0)) → BitsTell p text (set words k w) (64 * (k + 1))
marks-more p text words k w within before now i below =
    elim (cases_lt i (64 * k)) [
      -- a bit below 64 k is one of the words before, which are as they were
      | inl low ↦
          ap (λ x. test x (i % 64)) (get_or-set_other words k (i / 64) w 0 (λ same. omega (arith, same, low))) ∙ before i low
      | inr high ↦
          -- the bit is one of the word that was put there
          let place : i / 64 ≡ k = omega (arith, high, below) in
          let at : 64 * k + i % 64 ≡ i = omega (arith, high, below) in
          ap (λ n. test (get_or (set words k w) n 0) (i % 64)) place
          ∙ ap (λ x. test x (i % 64)) (get_or-set_same words k w 0 within)
          ∙ now (i % 64) (omega arith) ∙ ap (λ n. p (get_or text n 0)) at
    ]

-- past the end of a text, where NUL passes the test p, a word of ones tells the bytes
pub ones-past : (p : ℕ → Bool) (text : List ℕ) (n i : ℕ) → p 0 ≡ true → length text ≤ n → i < 64 → test 18446744073709551615 i ≡ p (get_or text (n + i) 0)
ones-past p text n i nul past below = test-ones i below ∙ sym (ap p (get_or_past text (n + i) 0 (omega (arith, past))) ∙ nul)

-- words that tell n bytes of a text tell those of its front of n bytes
pub marks-front : (p : ℕ → Bool) (text words : List ℕ) (n : ℕ) → BitsTell p text words n → BitsTell p (take n text) words n
marks-front p text words n marks i below = marks i below ∙ ap p (sym (get_or-take n text i 0 below))

-- where words tell the first 64 k bytes of a text, and NUL passes, the words with two words of ones at place k are the masks of that front
pub front-ends : (p : ℕ → Bool) (text words : List ℕ) (k : ℕ) → p 0 ≡ true → 64 * k ≤ length text → k + 1 < length words → BitsTell p text words (64 * k)
    → BitsTell p (take (64 * k) text) (set (set words k 18446744073709551615) (k + 1) 18446744073709551615) (64 * words_for (64 * k))
front-ends p text words k nul within room marks i below =
    -- `front` ends at a word's end, so that each place past it is told by ones (`past`), in the first of the two words (`one`) and in the second
    let front = take (64 * k) text in
    let long : length front ≡ 64 * k = length-take-le (64 * k) text within in
    let past = λ (m j : ℕ) (from : k ≤ m) (h : j < 64). ones-past p front (64 * m) j nul (omega (arith, long, from)) h in
    let one = marks-more p front words k 18446744073709551615 (omega (arith, room)) (marks-front p text words (64 * k) marks) (λ j h. past k j (omega arith) h) in
    marks-more p front (set words k 18446744073709551615) (k + 1) 18446744073709551615 (omega (arith, room, length-set words k 18446744073709551615)) one (λ j h. past (k + 1) j (omega arith) h) i (omega (arith, below))
