-- A hostname, by the bits of its bytes.
-- In the lemmas w and word are words of bits, i and j are places of bits in them, and len is the length of the name.
use Rattle.std.proofs.Common.{◌≡◌, ℕ, zero, suc, ◌+◌, ◌-◌, ◌*◌, ◌/◌, ◌^◌, ◌<◌, ◌≤◌, Bool, true, false, not, ◌&&◌, ◌||◌, ◌==◌, List, ◌∷◌, length, take, get_or, bit_and, bit_or, refl, sym, ap, ap₂, ◌∙◌, subst, inl, inr, arith, w64}
use Rattle.std.specs.Char.{is_ascii_alphabetic, is_ascii_alphanumeric}
use Rattle.std.specs.Int.{bit_at, trailing_zeros}
use Rattle.std.proofs.lemmas.Bool.{agree_below_at, cases_lt, cases_order, false≢true}
use Rattle.std.proofs.lemmas.List.{get_or-take, length-take-le}
use Rattle.std.proofs.lemmas.Nat.{and_le_l, and_le_r, or_lt}
use Rattle.std.proofs.lemmas.Nat.Bits.{bit_at_above, bit_at_cat_high}
use Rattle.sip_text.specs.Bytes.{dot, hyphen}
use Rattle.sip_masks.specs.Bits.{test}
use Rattle.sip_masks.specs.Marks.{is_plain}
use Rattle.sip_masks.specs.inner.Strange.{is_beyond}
use Rattle.sip_masks.proofs.BitLemmas.{shl, test-and, test-or, test-one_low, test-one_high, test-ones, test-shl_high, test-shl_low, test-shl_one}
use Rattle.sip_masks.proofs.WordLemmas.{test-shr, test-above, or-false}
use Rattle.sip_masks.proofs.RunLemmas.{none-set, lowest-set}
use Rattle.sip_masks.proofs.HostLemmas.{bad, are_good, top_of, good-from, good-at, good-end, top-at}

-- of the highest word of 64 bits, moved down by 64 - len, each bit below len is set
ones-low : (len i : ℕ) → i < len → len ≤ 32 → test (18446744073709551615 / 2 ^ (64 - len)) i ≡ true
ones-low len i below small = test-shr 18446744073709551615 (64 - len) i ∙ test-ones (64 - len + i) (omega (arith, below, small))

-- of the highest word of 64 bits, moved down by 64 - len, no bit from len on is set
ones-high : (len i : ℕ) → len ≤ i → len ≤ 32 → test (18446744073709551615 / 2 ^ (64 - len)) i ≡ false
ones-high len i from small = test-shr 18446744073709551615 (64 - len) i ∙ test-above 18446744073709551615 (64 - len + i) (omega arith) (omega (arith, from, small))

-- a conjunction with true is its first test
and-true : (b : Bool) → (b && true) ≡ b
and-true true = refl
and-true false = refl

-- a conjunction with false is false
and-false : (b : Bool) → (b && false) ≡ false
and-false true = refl
and-false false = refl

-- a disjunction with true is true
or-true : (b : Bool) → (b || true) ≡ true
or-true true = refl
or-true false = refl

-- a word of which a bit is set is not 0
pub some-set : (word i : ℕ) → test word i ≡ true → 0 < word
some-set zero i set = absurd (false≢true (sym (none-set zero i refl) ∙ set))
some-set (suc n) i set = omega arith

-- the highest bit that is set of a number from 2 ^ j up to 2 ^ (j + 1) is bit j
pub highest-set : (word j : ℕ) → 2 ^ j ≤ word → word < 2 ^ suc j → test word j ≡ true
unfolding test
highest-set word j from below =
    let low : word - 2 ^ j < 2 ^ j = omega (arith, from, below) in
    let is : 1 * 2 ^ j + (word - 2 ^ j) ≡ word = omega (arith, from) in
    let none : j - j ≡ 0 = omega arith in
    ap (λ n. n == 1) (ap (λ n. bit_at n j) (sym is) ∙ bit_at_cat_high 1 j (word - 2 ^ j) j low (omega arith) ∙ ap (bit_at 1) none)

-- no bit above the highest one is set
pub none-above : (word j i : ℕ) → word < 2 ^ suc j → j < i → test word i ≡ false
unfolding test
none-above word j i below after = ap (λ n. n == 1) (bit_at_above word (suc j) i below (omega (arith, after)))

-- a byte that stands in no name of a host
abbrev strange : ℕ → Bool
strange byte = (not (is_ascii_alphanumeric byte) && not (byte == dot)) && not (byte == hyphen)

-- a plain byte is beyond exactly if it stands in no name of a host
beyond-strange : (b : ℕ) → b < 256 → is_plain b ≡ true → is_beyond b ≡ strange b
beyond-strange b small plain = subst (λ p. (p && is_beyond b) ≡ (p && strange b)) plain (agree_below_at (λ x. is_plain x && is_beyond x) (λ x. is_plain x && strange x) 256 b refl small)

-- What follows is of the first len bytes of a window, which are plain, and of the bits that the code has of the first 32 bytes of the window.
-- bs has a bit for each byte that is beyond the bytes of names, ds one for each dot, and hs one for each hyphen.
module _ (window : List ℕ) (len bs ds hs : ℕ) (room : 32 ≤ length window) (some : 0 < len) (small : len ≤ 32)
    (bytes : (i : ℕ) → get_or window i 0 < 256) (plain : (i : ℕ) → i < len → is_plain (get_or window i 0) ≡ true)
    (beyond : (i : ℕ) → i < 32 → test bs i ≡ is_beyond (get_or window i 0))
    (dots : (i : ℕ) → i < 32 → test ds i ≡ (get_or window i 0 == dot))
    (hyphens : (i : ℕ) → i < 32 → test hs i ≡ (get_or window i 0 == hyphen)) where
  -- the text: the first bytes of the window
  abbrev pub text : List ℕ
  text = take len window

  -- the byte before a place of the text
  abbrev pub prev_is : ℕ → ℕ
  prev_is i = get_or (dot ∷ text) i 0

  -- the bits below len
  abbrev pub all : ℕ
  all = 18446744073709551615 / 2 ^ (64 - len)

  -- a bit for each dot of the text, and one after the text
  abbrev pub dot_word : ℕ
  dot_word = bit_or (bit_and ds all) (shl len 1)

  -- a bit for each hyphen of the text
  abbrev pub hyphen_word : ℕ
  hyphen_word = bit_and hs all

  -- a bit for the start of the text, and for each place after a dot
  abbrev pub begin_word : ℕ
  begin_word = bit_or (shl 1 dot_word) 1

  -- a bit for each byte at which the text cannot be a hostname
  abbrev pub bad_word : ℕ
  bad_word = bit_or (bit_or (bit_and bs all) (bit_and begin_word (bit_or dot_word hyphen_word))) (bit_and dot_word (shl 1 hyphen_word))

  -- the bytes of the text are those of the window
  here : (i : ℕ) → i < len → get_or text i 0 ≡ get_or window i 0
  here i below = get_or-take len window i 0 below

  -- the text is as long as it is told to be
  long : length text ≡ len
  long = length-take-le len window (omega (arith, room, small))

  -- a word that is cut at len keeps each bit below len
  masked : (w i : ℕ) → i < len → test (bit_and w all) i ≡ test w i
  masked w i below = test-and w all i ∙ ap (λ b. test w i && b) (ones-low len i below small) ∙ and-true (test w i)

  -- a word that is cut at len keeps no bit from len on
  cut : (w i : ℕ) → len ≤ i → test (bit_and w all) i ≡ false
  cut w i from = test-and w all i ∙ ap (λ b. test w i && b) (ones-high len i from small) ∙ and-false (test w i)

  -- bit i of the word of dots is set, for a place i of the text, exactly if a dot stands there
  dots-in : (i : ℕ) → i < len → test dot_word i ≡ (get_or text i 0 == dot)
  dots-in i below =
      test-or (bit_and ds all) (shl len 1) i
      ∙ ap₂ (λ a b. a || b) (masked ds i below ∙ dots i (omega (arith, below, small)) ∙ ap (λ x. x == dot) (sym (here i below))) (test-shl_low len i 1 below (omega (arith, below, small)))
      ∙ or-false (get_or text i 0 == dot)

  -- the bit right after the text is set
  dot-after : test dot_word len ≡ true
  dot-after =
      let is : len + 0 ≡ len = omega arith in
      let set : test (shl len 1) len ≡ true = subst (λ i. test (shl len 1) i ≡ true) is (test-shl_high len 0 1 (omega (arith, small)) ∙ test-one_low) in
      test-or (bit_and ds all) (shl len 1) len ∙ ap (λ b. test (bit_and ds all) len || b) set ∙ or-true (test (bit_and ds all) len)

  -- bit i of the word of hyphens is set, for a place i of the text, exactly if a hyphen stands there
  hyphens-in : (i : ℕ) → i < len → test hyphen_word i ≡ (get_or text i 0 == hyphen)
  hyphens-in i below = masked hs i below ∙ hyphens i (omega (arith, below, small)) ∙ ap (λ x. x == hyphen) (sym (here i below))

  -- bit i of the word of beginnings is set exactly if a dot, or the start of the text, stands before place i
  begins-is : (i : ℕ) → i ≤ len → test begin_word i ≡ (prev_is i == dot)
  -- before place 0 is the start of the text
  begins-is zero within = test-or (shl 1 dot_word) 1 0 ∙ ap₂ (λ a b. a || b) (test-shl_low 1 0 dot_word (omega arith) (omega arith)) test-one_low
  -- before place j + 1 is byte j
  begins-is (suc j) within =
      test-or (shl 1 dot_word) 1 (suc j) ∙ ap₂ (λ a b. a || b) (test-shl_one j dot_word (omega (arith, within, small))) (test-one_high j)
      ∙ or-false (test dot_word j) ∙ dots-in j (omega (arith, within))

  -- the mask of hyphens, one bit higher, tells before which places a hyphen stands
  hyphen-before : (i : ℕ) → i ≤ len → test (shl 1 hyphen_word) i ≡ (prev_is i == hyphen)
  -- no byte is before place 0, so no hyphen
  hyphen-before zero within = test-shl_low 1 0 hyphen_word (omega arith) (omega arith)
  -- before place j + 1 is byte j
  hyphen-before (suc j) within = test-shl_one j hyphen_word (omega (arith, within, small)) ∙ hyphens-in j (omega (arith, within))

  -- bit i of `bad_word` is set exactly if byte i of the text is bad after the byte before it
  bad-is : (i : ℕ) → i < len → test bad_word i ≡ bad (prev_is i) (get_or text i 0)
  bad-is i below =
      let within : i ≤ len = omega (arith, below) in
      -- the byte is strange, is a dot or is a hyphen exactly if its bit in the word of these is set: s, d and h
      let s = masked bs i below ∙ beyond i (omega (arith, below, small)) ∙ beyond-strange (get_or window i 0) (bytes i) (plain i below) ∙ ap strange (sym (here i below)) in
      let d = dots-in i below in
      let h = hyphens-in i below in
      -- the bit of `bad_word` is made of these bits as `bad` is made of what they say
      test-or _ _ i ∙ ap₂ (λ a b. a || b)
      (test-or _ _ i ∙ ap₂ (λ a b. a || b) s (test-and _ _ i ∙ ap₂ (λ a b. a && b) (begins-is i within) (test-or dot_word hyphen_word i ∙ ap₂ (λ a b. a || b) d h)))
      (test-and _ _ i ∙ ap₂ (λ a b. a && b) d (hyphen-before i within))

  -- in the word of bad bits the bit after the text is set exactly if a dot is bad there
  end-is : test bad_word len ≡ bad (prev_is len) dot
  end-is =
      let within : len ≤ len = omega arith in
      -- after the text no byte is strange, and the bit of the dot there is set
      test-or _ _ len ∙ ap₂ (λ a b. a || b)
      (test-or _ _ len ∙ ap₂ (λ a b. a || b) (cut bs len within) (test-and _ _ len ∙ ap₂ (λ a b. a && b) (begins-is len within) (test-or dot_word hyphen_word len ∙ ap (λ b. b || test hyphen_word len) dot-after)))
      (test-and _ _ len ∙ ap₂ (λ a b. a && b) dot-after (hyphen-before len within))

  -- no bit above the one at the end of the text is set
  none-higher : (i : ℕ) → len < i → i < 64 → test bad_word i ≡ false
  none-higher i past below =
      -- bit i is past the end of the text, and so is not set in the words of dots, of hyphens and of what is strange
      let from : len ≤ i = omega (arith, past) in
      let is : len + suc (i - len - 1) ≡ i = omega (arith, past) in
      let no_dot : test dot_word i ≡ false =
      test-or (bit_and ds all) (shl len 1) i
      ∙ ap₂ (λ a b. a || b) (cut ds i from) (subst (λ n. test (shl len 1) n ≡ false) is (test-shl_high len (suc (i - len - 1)) 1 (omega (arith, is, below)) ∙ test-one_high (i - len - 1))) in
      -- `bad_word` is made of these words
      test-or _ _ i ∙ ap₂ (λ a b. a || b)
      (test-or _ _ i ∙ ap₂ (λ a b. a || b) (cut bs i from) (test-and _ _ i ∙ ap (λ b. test begin_word i && b) (test-or dot_word hyphen_word i ∙ ap₂ (λ a b. a || b) no_dot (cut hs i from)) ∙ and-false (test begin_word i)))
      (test-and _ _ i ∙ ap (λ b. b && test (shl 1 hyphen_word) i) no_dot)

  -- where no bit is bad the text is good
  good : bad_word ≡ 0 → are_good dot text ≡ true
  good none =
      good-from dot text
      (λ i h.
      let below : i < len = omega (arith, h, long) in
      sym (bad-is i below) ∙ none-set bad_word i none)
      (ap (λ n. bad (prev_is n) dot) long ∙ sym end-is ∙ none-set bad_word len none)

  -- where the text is good, no bit is bad
  pub none-bad : bs < 2 ^ 64 → are_good dot text ≡ true → bad_word ≡ 0
  none-bad fits is_good = elim (cases_lt 0 bad_word) [
    | inr none ↦ omega (arith, none)
    | inl some_bad ↦
        let found = lowest-set bad_word some_bad word_fits in
        -- there is no bad bit, since no bit is set where the text is good
        absurd (false≢true (sym (unset (trailing_zeros w64 bad_word) found.0) ∙ found.1))
  ]
    where
      -- the word of the bad bits fits into 64 bits
      word_fits : bad_word < 2 ^ 64
      word_fits =
          let begins = bit_and begin_word (bit_or dot_word hyphen_word) in
          let begins_fit : begins < 2 ^ 64 = omega (arith, and_le_l begin_word (bit_or dot_word hyphen_word), or_lt 64 (shl 1 dot_word) 1 (omega arith) (omega arith)) in
          -- each of the words that make it fits, since it is no more than one that does
          or_lt 64 (bit_or (bit_and bs all) begins) (bit_and dot_word (shl 1 hyphen_word))
          (or_lt 64 (bit_and bs all) begins (omega (arith, and_le_l bs all, fits)) begins_fit) (omega (arith, and_le_r dot_word (shl 1 hyphen_word)))

      -- in a good text each byte, and the dot after the last one, may stand where it does
      -- bit i is not set
      unset : (i : ℕ) → i < 64 → test bad_word i ≡ false
      unset i below = elim (cases_order i len) [
        -- the bit stands for the dot after the last byte, for a byte of the text, or for none
        | inl last ↦ ap (test bad_word) last ∙ end-is ∙ ap (λ n. bad (prev_is n) dot) (sym long) ∙ good-end dot text is_good
        | inr (inl inside) ↦ bad-is i inside ∙ good-at dot text is_good i (omega (arith, inside, long))
        | inr (inr past) ↦ none-higher i past below
      ]

  -- some label begins in the text
  pub begins-some : 0 < bit_and begin_word all
  begins-some = some-set _ 0 (masked begin_word 0 some ∙ begins-is 0 (omega arith))

  -- the last label begins within the text
  pub top-within : (top : ℕ) → test (bit_and begin_word all) top ≡ true → top < len
  top-within top set = elim (cases_lt top len) [
    -- the words were cut to the text, so no bit after it is set
    | inl low ↦ low
    | inr high ↦ absurd (false≢true (sym (cut begin_word top high) ∙ set))
  ]

  -- where no bit is bad, the first len bytes of the window are an ordinary name exactly if a letter is where the last label begins
  pub name-from : (top : ℕ) → bad_word ≡ 0 → test (bit_and begin_word all) top ≡ true → ((j : ℕ) → top < j → test (bit_and begin_word all) j ≡ false)
      → (are_good dot text && is_ascii_alphabetic (top_of dot dot text)) ≡ is_ascii_alphabetic (get_or window top 0)
  name-from top none set above =
      let within = top-within top set in
      let front : (prev_is top == dot) ≡ true = sym (begins-is top (omega (arith, within))) ∙ sym (masked begin_word top within) ∙ set in
      -- no dot stands in the text from the place `top` on
      let no_dots : (i : ℕ) → top ≤ i → i < length text → (get_or text i 0 == dot) ≡ false = λ i from h. elim (cases_lt (suc i) len) [
        | inl inner ↦ sym (begins-is (suc i) (omega (arith, inner))) ∙ sym (masked begin_word (suc i) inner) ∙ above (suc i) (omega (arith, from))
        | inr last ↦
            let is : len ≡ suc i = omega (arith, last, h, long) in
            subst (λ n. (prev_is n == dot) ≡ false) is (end_dot (prev_is len == dot) (prev_is len == hyphen) (sym end-is ∙ none-set bad_word len none))
      ] in
      -- the last label begins at the place `top`
      ap (λ g. g && is_ascii_alphabetic (top_of dot dot text)) (good none)
      ∙ ap is_ascii_alphabetic (top-at dot dot text top (omega (arith, within, long)) front no_dots ∙ here top within)
    where
      -- where the test of a dot or of a hyphen before the end fails, the one of a dot fails
      end_dot : (d h : Bool) → ((d && true) || h) ≡ false → d ≡ false
      end_dot false h e = refl
      end_dot true h e = absurd (false≢true (sym e))
