-- The two tables, each four times, read at the halves of 64 bytes.
-- A shuffle, `swz_l`, looks up each lane in a table, and `SwzOk` says that it may. `zip2 h a b` is h of the lanes at each place, `replicate n y` is y in
-- each lane, and `Each1 P v` says that P holds of each number of v.
use Rattle.std.proofs.Common.{◌≡◌, ℕ, ◌+◌, ◌*◌, ◌/◌, ◌%◌, ◌^◌, ◌<◌, eqb, Bool, true, List, map, length, get_or, replicate, bit_and, Fits, w8, refl, sym, ap, ◌∙◌, arith}
use Rattle.std.proofs.lemmas.List.{get_or-map, length-map, ext_get_or}
use Rattle.std.proofs.lemmas.Nat.{and_le_r}
use Rattle.std.proofs.lemmas.Simd.{Each1-all, Each1-weaker, Each1-zip2, Each1-get_or, Each2-splat, below_from_Fits, length-zip2, swz_l, SwzOk, SwzOk-from_below, length-swz_l, get_or-swz_l_below}
use lib.Lanes.{zip2}
use Rattle.std.proofs.lemmas.Bool.{agree_below, agree_below_at, eqb-true}
use Rattle.sip_masks.proofs.LaneLemmas.{IsBlock}

-- a shifted down by b bits
abbrev pub down : ℕ → ℕ → ℕ
down a b = a / 2 ^ b

-- the shuffle by the upper halves of the bytes of a block is defined
pub high_ok : (v : List ℕ) → IsBlock v → SwzOk w8 16 64 0 (zip2 down v (replicate 64 4))
high_ok v fits =
    let small = Each1-weaker (λ a. a < 256) (λ a. a / 16 < 16) (λ a h. omega arith) v (below_from_Fits w8 v fits.1) in
    SwzOk-from_below w8 16 4 64 0 (zip2 down v (replicate 64 4)) refl (omega (arith, length-zip2 down v (replicate 64 4) fits.0))
    (Each1-zip2 down (λ j. j < 16) v (replicate 64 4) (Each2-splat (λ a b. down a b < 16) v 64 4 small))

-- the shuffle by the lower halves of the bytes of a block is defined
pub low_ok : (v : List ℕ) → IsBlock v → SwzOk w8 16 64 0 (zip2 bit_and v (replicate 64 15))
low_ok v fits =
    let small = Each1-all (λ a. bit_and a 15 < 16) (λ a. omega (arith, and_le_r a 15)) v in
    SwzOk-from_below w8 16 4 64 0 (zip2 bit_and v (replicate 64 15)) refl (omega (arith, length-zip2 bit_and v (replicate 64 15) fits.0))
    (Each1-zip2 bit_and (λ j. j < 16) v (replicate 64 15) (Each2-splat (λ a b. bit_and a b < 16) v 64 15 small))

-- entry n of a table of 64 is its entry n % 16: sixteen entries stand four times
abbrev pub repeats : List ℕ → ℕ → Bool
repeats t n = eqb (get_or t n 0) (get_or t (n % 16) 0)

-- the test that every number passes
abbrev pub always : ℕ → Bool
always n = true

-- where sixteen entries of the table t stand four times, the shuffle of t by g x for each byte x of a block gives the entry of t at g x
pub looked_up : (t : List ℕ) (g : ℕ → ℕ) (v js : List ℕ) → agree_below (repeats t) always 64 ≡ true → IsBlock v → js ≡ map g v → ((x : ℕ) → x < 256 → g x < 16) → swz_l w8 16 t 0 js ≡ map (λ x. get_or t (g x) 0) v
looked_up t g v js four fits e small =
    -- js has 64 entries too, and the lists are compared entry by entry
    let long : length js ≡ 64 = ap length e ∙ length-map v g ∙ fits.0 in
    ext_get_or 0 _ _ (length-swz_l w8 16 t 0 js ∙ long ∙ sym (length-map v (λ x. get_or t (g x) 0) ∙ fits.0)) (λ i h.
    -- entry i of js is g of byte i of the block v, and so less than 16
    let lt : i < 64 = omega (arith, length-swz_l w8 16 t 0 js) in
    let within : i < length v = omega (arith, fits.0) in
    let is : get_or js i 0 ≡ g (get_or v i 0) = ap (λ l. get_or l i 0) e ∙ get_or-map g v i 0 0 within in
    let below : get_or js i 0 < 16 = omega (arith, small (get_or v i 0) (Each1-get_or (Fits w8) v i 0 within fits.1).fits) in
    -- the byte is looked up at its index within its own sixteen entries
    let at = 16 * ((0 + i) / 16) + get_or js i 0 in
    let same = eqb-true _ _ (agree_below_at (repeats t) always 64 at four (omega (arith, below))) in
    let low : at % 16 ≡ g (get_or v i 0) = omega (arith, below, is) in
    get_or-swz_l_below w8 16 t 0 js i (omega arith) below
    ∙ same ∙ ap (λ n. get_or t n 0) low ∙ sym (get_or-map (λ x. get_or t (g x) 0) v i 0 0 within))
