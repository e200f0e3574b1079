-- Where each lane is made of one byte alone, a mask tells a class of bytes if it does so for each of the 256 bytes.
-- A lane is one of the numbers on which a step of the code works side by side. `zip2 h a b` is h of the lanes at each place, `replicate n y` is y in
-- each, `mask_l` has a bit for each lane, and `top 7` is the top bit of one. `Each1 (Fits w8) v`: each number of v is a byte.
use Rattle.std.proofs.Common.{◌≡◌, ℕ, ◌%◌, ◌^◌, ◌<◌, ◌≤◌, eqb, leb, ltb, Bool, true, false, cond, List, [], ◌∷◌, map, length, get_or, replicate, refl, sym, Fits, w8, ap, ◌∙◌, arith}
use Rattle.std.proofs.lemmas.Bool.{agree_below, agree_below_at}
use Rattle.std.proofs.lemmas.List.{get_or-map, length-map}
use Rattle.std.proofs.lemmas.Simd.{zip2_splat, zip2_of_maps, map-map, Each1-get_or}
use lib.Lanes.{zip2, mask_l, top, Each1}
use Rattle.sip_masks.specs.Bits.{test}
use Rattle.sip_masks.proofs.BitLemmas.{test-low, test-mask}

-- v is n bytes
abbrev pub AreBytes : ℕ → List ℕ → Type 0
AreBytes n v = (length v ≡ n) × Each1 (Fits w8) v

-- v is the 64 bytes of a block
abbrev pub IsBlock : List ℕ → Type 0
IsBlock v = AreBytes 64 v

-- what the test of equal bytes leaves in a lane: 255 where it holds, and else 0
abbrev pub hit : ℕ → ℕ → ℕ
hit a b = cond (eqb a b) 255 0

-- a byte of ones where one byte is below another, and else of zeros
abbrev pub below : ℕ → ℕ → ℕ
below a b = cond (ltb a b) 255 0

-- a byte of ones where one byte is at most another, and else of zeros
abbrev pub at_most : ℕ → ℕ → ℕ
at_most a b = cond (leb a b) 255 0

-- an operation of each lane with the same byte y is the operation of y with the value in each lane
-- h is the operation, v has n bytes, and f gives the value of a byte in its lane
pub splatted : (h : ℕ → ℕ → ℕ) (f : ℕ → ℕ) (n y : ℕ) (v : List ℕ) {a : List ℕ} → length v ≡ n → a ≡ map f v → zip2 h a (replicate n y) ≡ map (λ x. h (f x) y) v
splatted h f n y v long is = ap (λ a. zip2 h a (replicate n y)) is ∙ zip2_splat h (map f v) n y (length-map v f ∙ long) ∙ map-map (λ x. h x y) f v

-- n lanes that all hold the byte y are y for each of n values
filled : (n y : ℕ) (v : List ℕ) → length v ≡ n → replicate n y ≡ map (λ _. y) v
filled n y v long = ap (λ k. replicate k y) (sym long) ∙ go v
  where
    -- copies of y, as many as there are values, are y for each of them
    go : (v : List ℕ) → replicate (length v) y ≡ map (λ _. y) v
    go [] = refl
    go (x ∷ v) = ap (λ t. y ∷ t) (go v)

-- the comparison of the byte y with each lane leaves in the lane whether y is at most its value
pub from_byte : (f : ℕ → ℕ) (n y : ℕ) (v : List ℕ) {a : List ℕ} → length v ≡ n → a ≡ map f v → zip2 at_most (replicate n y) a ≡ map (λ x. at_most y (f x)) v
from_byte f n y v long is = zip2_of_maps at_most (λ _. y) f v (filled n y v long) is

-- the comparison of each lane with the byte y leaves in the lane whether its value is y
pub equal : (f : ℕ → ℕ) (n y : ℕ) (v : List ℕ) {a : List ℕ} → length v ≡ n → a ≡ map f v → zip2 hit a (replicate n y) ≡ map (λ x. hit (f x) y) v
equal f n y v long is = splatted hit f n y v long is

-- where the top bit of the lane f x says for each byte x whether p holds of it, bit i of the mask of the lanes says whether p holds of byte i
-- v has n bytes, and z is the lanes that are made of them
pub classified : (f : ℕ → ℕ) (p : ℕ → Bool) (n : ℕ) (v z : List ℕ) → AreBytes n v → n ≤ 64 → z ≡ map f v → agree_below (λ x. top 7 (f x)) p 256 ≡ true
    → (i : ℕ) → i < n → test (mask_l (map (top 7) z) % 2 ^ 64) i ≡ p (get_or v i 0)
classified f p n v z block most is all i small =
    -- bit i of the mask is the top bit of the lane i, which is made of byte i of v
    let within : i < length v = omega (arith, block.0, small) in
    let lanes : map (top 7) z ≡ map (λ x. top 7 (f x)) v = ap (map (top 7)) is ∙ map-map (top 7) f v in
    test-low _ i (omega (arith, small, most)) ∙ test-mask (map (top 7) z) i ∙ ap (λ l. get_or l i false) lanes ∙ get_or-map (λ x. top 7 (f x)) v i 0 false within
    ∙ agree_below_at (λ x. top 7 (f x)) p 256 (get_or v i 0) all (Each1-get_or (Fits w8) v i 0 within block.1).fits
