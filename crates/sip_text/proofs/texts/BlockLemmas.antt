-- Bytes of tokens, sixteen at a time: two look-ups by the halves of each byte.
-- A shuffle, `swz_l`, looks up each lane in a table, and `SwzOk` says that it may. `zip2 h a b` is h of the lanes at each place, `replicate n y` is y in
-- each lane, and `Each1 P v` says that P holds of each number of v.
-- In the lemmas v is a block of bytes, i and k are places, and js, a and b are what each byte of a block becomes.
use Rattle.std.proofs.Common.{◌≡◌, ℕ, zero, suc, ◌+◌, ◌-◌, ◌/◌, ◌^◌, ◌<◌, ◌≤◌, eqb, Bool, true, false, not, cond, List, [], ◌∷◌, map, length, get_or, replicate, bit_and, Fits, w8, refl, sym, ap, ◌∙◌, subst, inl, inr, arith}
use Rattle.std.specs.List.{prefix_len}
use Rattle.std.proofs.lemmas.Bool.{agree_below_at, cases_lt}
use Rattle.std.proofs.lemmas.List.{get_or-map, length-map, ext_get_or}
use Rattle.std.proofs.lemmas.List.Sums.{prefix_len-le-length, prefix_len_passes, prefix_len_stops}
use Rattle.std.proofs.lemmas.Nat.{and_le_r}
use Rattle.std.proofs.lemmas.Simd.{Each1-all, Each1-weaker, Each1-zip2, Each2-splat, below_from_Fits, length-zip2, zip2_splat, zip2_of_maps, map-map, length-chunk, get_or-chunk, swz_l, SwzOk, SwzOk-from_below, length-swz_l, get_or-swz_l_below}
use lib.Lanes.{zip2, chunk, mask_l, Each1}
use Rattle.sip_text.specs.Bytes.{is_token_byte}
use Rattle.sip_text.specs.declared.token.TheConstants.{LOW, HIGH}

-- the text has the 16 bytes of a block
abbrev pub IsBlock : List ℕ → Type 0
IsBlock v = (length v ≡ 16) × Each1 (Fits w8) v

-- a shifted down by b bits
abbrev pub down : ℕ → ℕ → ℕ
down a b = a / 2 ^ b

-- the shuffle by the upper halves of the bytes of a block is defined
pub high_ok : (v : List ℕ) → IsBlock v → SwzOk w8 16 16 0 (zip2 down v (replicate 16 4))
high_ok v fits =
    let small = Each1-weaker (λ a. a < 256) (λ a. a / 16 < 16) (λ a h. omega arith) v (below_from_Fits w8 v fits.1) in
    SwzOk-from_below w8 16 1 16 0 (zip2 down v (replicate 16 4)) refl (omega (arith, length-zip2 down v (replicate 16 4) fits.0))
    (Each1-zip2 down (λ j. j < 16) v (replicate 16 4) (Each2-splat (λ a b. down a b < 16) v 16 4 small))

-- the shuffle by the lower halves of the bytes of a block is defined
pub low_ok : (v : List ℕ) → IsBlock v → SwzOk w8 16 16 0 (zip2 bit_and v (replicate 16 15))
low_ok v fits =
    let small = Each1-all (λ a. bit_and a 15 < 16) (λ a. omega (arith, and_le_r a 15)) v in
    SwzOk-from_below w8 16 1 16 0 (zip2 bit_and v (replicate 16 15)) refl (omega (arith, length-zip2 bit_and v (replicate 16 15) fits.0))
    (Each1-zip2 bit_and (λ j. j < 16) v (replicate 16 15) (Each2-splat (λ a b. bit_and a b < 16) v 16 15 small))

-- each byte of a block is below 256
lane_fits : (v : List ℕ) (i : ℕ) → Each1 (Fits w8) v → get_or v i 0 < 256
lane_fits [] i h = omega arith
lane_fits (x ∷ xs) zero h = h.0.fits
lane_fits (x ∷ xs) (suc i) h = lane_fits xs i h.1

-- where the table t has sixteen entries, the shuffle of t by g x for each x of a block gives the entry of t at g x
pub looked_up : (t : List ℕ) (g : ℕ → ℕ) (v js : List ℕ) → IsBlock v → js ≡ map g v → ((x : ℕ) → x < 256 → g x < 16) → swz_l w8 16 t 0 js ≡ map (λ x. get_or t (g x) 0) v
looked_up t g v js fits e small =
    -- js has 16 entries too, and the lists are compared entry by entry
    let long : length js ≡ 16 = ap length e ∙ length-map v g ∙ fits.0 in
    ext_get_or 0 _ _ (length-swz_l w8 16 t 0 js ∙ long ∙ sym (length-map v (λ x. get_or t (g x) 0) ∙ fits.0)) (λ i h.
    -- entry i of js is g of byte i of the block v, and so less than 16
    let lt : i < 16 = omega (arith, length-swz_l w8 16 t 0 js) in
    let within : i < length v = omega (arith, fits.0) in
    let is : get_or js i 0 ≡ g (get_or v i 0) = ap (λ l. get_or l i 0) e ∙ get_or-map g v i 0 0 within in
    let below : get_or js i 0 < 16 = omega (arith, small (get_or v i 0) (lane_fits v i fits.1)) in
    -- so the shuffle gives at i the entry of t at g of this byte
    get_or-swz_l_below w8 16 t 0 js i (omega arith) below
    ∙ ap (λ n. get_or t n 0) (omega arith ∙ is) ∙ sym (get_or-map (λ x. get_or t (g x) 0) v i 0 0 within))

-- the shuffle by the lower halves gives the entry of LOW for each byte
pub by_low-is : (v : List ℕ) → IsBlock v → swz_l w8 16 LOW 0 (zip2 bit_and v (replicate 16 15)) ≡ map (λ x. get_or LOW (bit_and x 15) 0) v
by_low-is v fits = looked_up LOW (λ x. bit_and x 15) v _ fits (zip2_splat bit_and v 16 15 fits.0) (λ x h. omega (arith, and_le_r x 15))

-- the shuffle by the upper halves gives the entry of HIGH for each byte
pub by_high-is : (v : List ℕ) → IsBlock v → swz_l w8 16 HIGH 0 (zip2 down v (replicate 16 4)) ≡ map (λ x. get_or HIGH (x / 16) 0) v
by_high-is v fits = looked_up HIGH (λ x. x / 16) v _ fits (zip2_splat down v 16 4 fits.0) (λ x h. omega arith)

-- the bits that the table of the lower halves and that of the upper halves share at a byte: 0 at a byte that is of no token
abbrev pub shares : ℕ → ℕ
shares x = bit_and (get_or LOW (bit_and x 15) 0) (get_or HIGH (x / 16) 0)

-- the two entries of a byte share a bit exactly if it is a token byte
pub shares-token : (x : ℕ) → x < 256 → not (eqb (shares x) 0) ≡ is_token_byte x
shares-token x below = agree_below_at (λ y. not (eqb (shares y) 0)) is_token_byte 256 x refl below

-- where two tests agree on each byte, the longest fronts that pass them are equally long
-- p and q are the tests, and v is the bytes
pub prefix_len-agree : (p q : ℕ → Bool) → ((x : ℕ) → x < 256 → p x ≡ q x) → (v : List ℕ) → Each1 (Fits w8) v → prefix_len p v ≡ prefix_len q v
prefix_len-agree p q same [] fits = refl
prefix_len-agree p q same (x ∷ xs) fits = ap (λ b. cond b (1 + prefix_len p xs) 0) (same x fits.0.fits) ∙ ap (λ n. cond (q x) (1 + n) 0) (prefix_len-agree p q same xs fits.1)

-- the mask of the bytes at which the two look-ups share no bit is the mask of the bytes that share none by `shares`
pub others : (v a b : List ℕ) → a ≡ map (λ x. get_or LOW (bit_and x 15) 0) v → b ≡ map (λ x. get_or HIGH (x / 16) 0) v → mask_l (map (λ x. eqb x 0) (zip2 bit_and a b)) ≡ mask_l (map (λ x. eqb (shares x) 0) v)
others v a b a_is b_is =
    ap (λ z. mask_l (map (λ x. eqb x 0) z)) (zip2_of_maps bit_and (λ x. get_or LOW (bit_and x 15) 0) (λ x. get_or HIGH (x / 16) 0) v a_is b_is)
    ∙ ap mask_l (map-map (λ x. eqb x 0) shares v)

-- the two look-ups of a block of sixteen bytes, joined bit by bit, are sixteen
-- a and b are the two look-ups of the block v, which give f and g of each byte
pub long-and : (v a b : List ℕ) (f g : ℕ → ℕ) → length v ≡ 16 → a ≡ map f v → b ≡ map g v → length (zip2 bit_and a b) ≡ 16
long-and v a b f g long a_is b_is =
    let left : length a ≡ 16 = ap length a_is ∙ length-map v f ∙ long in
    length-zip2 bit_and a b (left ∙ sym (ap length b_is ∙ length-map v g ∙ long)) ∙ left

-- the run of bytes of a block at which the tables share a bit is its run of bytes of tokens
pub block-run : (v : List ℕ) → Each1 (Fits w8) v → prefix_len (λ x. not (eqb (shares x) 0)) v ≡ prefix_len is_token_byte v
block-run v fits = prefix_len-agree (λ x. not (eqb (shares x) 0)) is_token_byte shares-token v fits

-- where all bytes of a text before a block pass, and the first r bytes of the block do, all before `at + r` pass
pub block-passes : (p : ℕ → Bool) (text : List ℕ) (at r : ℕ) → at + 16 ≤ length text → r ≡ prefix_len p (chunk at 16 text) → ((k : ℕ) → k < at → p (get_or text k 0) ≡ true) → (k : ℕ) → k < at + r → p (get_or text k 0) ≡ true
block-passes p text at r room r_is before k below =
    elim (cases_lt k at) [
      | inl low ↦ before k low
      -- the byte lies in the block, among its first r bytes
      | inr high ↦
          let long = length-chunk at 16 text room in
          let few = prefix_len-le-length p (chunk at 16 text) in
          let back : at + (k - at) ≡ k = omega (arith, high) in
          subst (λ x. p x ≡ true) (get_or-chunk at 16 text (k - at) 0 (omega (arith, below, r_is, long, few, high)) ∙ ap (λ j. get_or text j 0) back)
          (prefix_len_passes p (chunk at 16 text) (k - at) 0 (omega (arith, below, r_is, high)))
    ]

-- where fewer than all sixteen bytes of a block pass, the byte after those that do does not pass
pub block-stops : (p : ℕ → Bool) (text : List ℕ) (at r : ℕ) → at + 16 ≤ length text → r ≡ prefix_len p (chunk at 16 text) → r < 16 → p (get_or text (at + r) 0) ≡ false
block-stops p text at r room r_is short =
    let stops = prefix_len_stops p (chunk at 16 text) 0 (omega (arith, short, r_is, length-chunk at 16 text room)) in
    subst (λ x. p x ≡ false) (ap (λ j. get_or (chunk at 16 text) j 0) (sym r_is) ∙ get_or-chunk at 16 text r 0 short) stops
