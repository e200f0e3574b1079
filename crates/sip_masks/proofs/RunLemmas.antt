-- Runs of bytes, seen in a word.
use Rattle.std.proofs.Common.{◌≡◌, ℕ, ◌+◌, ◌-◌, ◌^◌, ◌<◌, ◌≤◌, Bool, true, false, not, ◌==◌, List, length, drop, get_or, refl, sym, ap, ◌∙◌, subst, inl, inr, arith, w64}
use Rattle.std.specs.List.{prefix_len}
use Rattle.std.specs.Int.{bit_at, trailing_zeros}
use Rattle.std.proofs.lemmas.Bool.{cases_lt, false≢true}
use Rattle.std.proofs.lemmas.List.{length-drop, get_or-drop, get_or_past}
use Rattle.std.proofs.lemmas.List.Sums.{prefix_len_is, prefix_len_stops}
use Rattle.std.proofs.lemmas.Nat.Bits.{bit_at-zero, bit_at-trailing_zeros}
use Rattle.sip_masks.specs.Bits.{test}

-- bit j of the word says for each j below n whether byte p + j of the text passes the test q
abbrev pub Shows : ℕ → (ℕ → Bool) → List ℕ → ℕ → ℕ → Type 0
Shows n q text p word = (j : ℕ) → j < n → test word j ≡ q (get_or text (p + j) 0)

-- each byte of the text from p up to e passes the test f
abbrev pub Passes : (ℕ → Bool) → List ℕ → ℕ → ℕ → Type 0
Passes f text p e = (k : ℕ) → p ≤ k → k < e → f (get_or text k 0) ≡ true

-- of a word that is not 0, the bit at its number of trailing zeros is set, and no lower one is
pub lowest-set : (word : ℕ) → 0 < word → word < 2 ^ 64 → (trailing_zeros w64 word < 64) × (test word (trailing_zeros w64 word) ≡ true) × ((i : ℕ) → i < trailing_zeros w64 word → test word i ≡ false)
unfolding test
lowest-set word some small =
    let found = bit_at-trailing_zeros w64 word some small in
    (found.0, ap (λ n. n == 1) found.1, λ i below. ap (λ n. n == 1) (found.2 i below))

-- no bit of 0 is set
pub none-set : (word j : ℕ) → word ≡ 0 → test word j ≡ false
unfolding test
none-set word j none = ap (λ n. n == 1) (ap (λ n. bit_at n j) none ∙ bit_at-zero j)

-- where a test is the opposite of another and false, the other is true
flipped : (a b : Bool) → a ≡ not b → a ≡ false → b ≡ true
flipped a true same low = refl
flipped a false same low = absurd (false≢true (sym low ∙ same))

-- where a test is the opposite of another and true, the other is false
flopped : (a b : Bool) → a ≡ not b → a ≡ true → b ≡ false
flopped a false same high = refl
flopped a true same high = absurd (false≢true (sym same ∙ high))

-- where each byte from p up to e passes, and the one at e does not or is the end, the longest front that passes after p has e - p bytes
pub run-is : (f : ℕ → Bool) (text : List ℕ) (p e : ℕ) → p ≤ e → e ≤ length text → Passes f text p e → (e < length text → f (get_or text e 0) ≡ false) → prefix_len f (drop p text) ≡ e - p
run-is f text p e from within passes stops =
    -- the text after p passes at each place k below e - p, and not at e - p, if it is so long
    let long = length-drop p text in
    prefix_len_is f (drop p text) (e - p) 0 (omega (arith, long, from, within))
    (λ k below. subst (λ x. f x ≡ true) (sym (get_or-drop p text k 0)) (passes (p + k) (omega arith) (omega (arith, below, from))))
    (λ below.
    let is : p + (e - p) ≡ e = omega (arith, from) in
    subst (λ x. f x ≡ false) (sym (get_or-drop p text (e - p) 0 ∙ ap (λ n. get_or text n 0) is)) (stops (omega (arith, below, long, from))))

-- where n bytes from p on pass, and lie within the text, the longest front that passes after p has n bytes or more
pub run-from : (f : ℕ → Bool) (text : List ℕ) (p n : ℕ) → Passes f text p (p + n) → p + n ≤ length text → n ≤ prefix_len f (drop p text)
run-from f text p n passes within = elim (cases_lt (prefix_len f (drop p text)) n) [
  | inl less ↦
      -- if the run were shorter, the byte that stops it would be one of those that pass
      let k = prefix_len f (drop p text) in
      let stops = prefix_len_stops f (drop p text) 0 (omega (arith, less, within, length-drop p text)) in
      absurd (false≢true (sym stops ∙ ap f (get_or-drop p text k 0) ∙ passes (p + k) (omega arith) (omega (arith, less))))
  | inr enough ↦ enough
]

-- What follows is of a mask of the bytes that do not pass the test f: q is the opposite of f, and NUL is one of these bytes.
module _ (f q : ℕ → Bool) (opposite : (x : ℕ) → q x ≡ not (f x)) (nul : q 0 ≡ true) where
  -- where no bit of the word is set, n bytes more pass, and they lie within the text
  -- the bytes from s up to p were seen to pass, and the word tells of the n bytes from p on
  pub goes-on : (text : List ℕ) (n s p word : ℕ) → word ≡ 0 → Shows n q text p word → Passes f text s p → p ≤ length text → Passes f text s (p + n) × (p + n ≤ length text)
  goes-on text n s p word none shows before within =
      -- `unset`: each of the n bytes passes, since its bit is not set
      let unset = λ (j : ℕ) (h : j < n). sym (shows j h) ∙ none-set word j none in (
        -- a byte from p on passes, since its bit is not set
        (λ k from below. elim (cases_lt k p) [
          | inl low ↦ before k from low
          | inr high ↦
              let is : p + (k - p) ≡ k = omega (arith, high) in
              let small : k - p < n = omega (arith, high, below) in
              subst (λ m. f (get_or text m 0) ≡ true) is (flipped (q (get_or text (p + (k - p)) 0)) (f (get_or text (p + (k - p)) 0)) (opposite _) (unset (k - p) small))
        ]),
        -- the bytes lie within the text, since past its end the bits are set
        elim (cases_lt (length text) (p + n)) [
          | inl short ↦
              let is : p + (length text - p) ≡ length text = omega (arith, within) in
              let set_there : q (get_or text (p + (length text - p)) 0) ≡ true = ap q (get_or_past text (p + (length text - p)) 0 (omega (arith, is))) ∙ nul in
              absurd (false≢true (sym (unset (length text - p) (omega (arith, short, within))) ∙ set_there))
          | inr room ↦ room
        ],
      )

  -- where a bit of the word is set, the bytes up to the lowest set one pass, and it is where they end: at the end of the text or at a byte that fails
  -- the bytes from s up to p were seen to pass, and the word tells of the `most` bytes from p on, and has no bit after these
  pub stops-at : (text : List ℕ) (most s p word : ℕ) → 0 < word → word < 2 ^ 64 → Shows most q text p word → ((j : ℕ) → most ≤ j → j < 64 → test word j ≡ false) → s ≤ p → Passes f text s p → p ≤ length text
      → prefix_len f (drop s text) ≡ p + trailing_zeros w64 word - s
  stops-at text most s p word some small shows none order before within =
      -- `found` says that the lowest set bit is bit n of the word, and that the bits below it are not set
      let found = lowest-set word some small in
      let n = trailing_zeros w64 word in
      -- bit n is one of the `most` that the word tells of, since it has none after them
      let fits : n < most = elim (cases_lt n most) [
        | inl less ↦ less
        | inr more ↦ absurd (false≢true (sym (none n more found.0) ∙ found.1))
      ] in
      -- the byte at the lowest bit fails, or the text ends there
      let at : q (get_or text (p + n) 0) ≡ true = sym (shows n fits) ∙ found.1 in
      -- all bytes before the found one pass; and the text does not end before it, since its end would be found first
      let low = λ (j : ℕ) (h : j < n). sym (shows j (omega (arith, h, fits))) ∙ found.2 j h in
      let inside : p + n ≤ length text = elim (cases_lt (length text) (p + n)) [
        -- where the text ended before the found byte, the bit at its end would be set, since 0 fails; but no bit before the found one is set
        | inl short ↦
            let is : p + (length text - p) ≡ length text = omega (arith, within) in
            let set_there : q (get_or text (p + (length text - p)) 0) ≡ true = ap q (get_or_past text (p + (length text - p)) 0 (omega (arith, is))) ∙ nul in
            absurd (false≢true (sym (low (length text - p) (omega (arith, short, within))) ∙ set_there))
        | inr room ↦ room
      ] in
      -- the bytes up to it pass, those before p as was known
      run-is f text s (p + n) (omega (arith, order)) inside
      -- a byte before p passes as was known, and one from p up to the found one passes since its bit is not set
      (λ k from below. elim (cases_lt k p) [
        | inl early ↦ before k from early
        | inr high ↦
            let is : p + (k - p) ≡ k = omega (arith, high) in
            subst (λ m. f (get_or text m 0) ≡ true) is (flipped (q (get_or text (p + (k - p)) 0)) (f (get_or text (p + (k - p)) 0)) (opposite _) (low (k - p) (omega (arith, high, below))))
      ])
      (λ _. flopped (q (get_or text (p + n) 0)) (f (get_or text (p + n) 0)) (opposite _) at)

-- a test is the opposite of its opposite
pub twice : (b : Bool) → b ≡ not (not b)
twice true = refl
twice false = refl
