-- Where the mask of one load is 0, all bytes of the load pass a test, and a number of eight bytes keeps the first k of them when it is moved up.
-- In the lemmas b0 to b7 are eight bytes, and h0 to h7 say that each is below 256; d is the bytes, i and j places in them, z a list of lanes.
-- A load (`chunk i n d`) is the n bytes of d from the place i on; `top 7` is the top bit of a lane, `mask_l` the number that bits make, and `zip2 o` joins
-- two lists by the operation o. `agree_below f g 256` says that two functions of a byte agree at each byte.
use Rattle.std.proofs.Common.{◌≡◌, ℕ, zero, suc, ◌+◌, ◌-◌, ◌*◌, ◌%◌, ◌^◌, ◌<◌, ◌≤◌, eqb, Bool, true, false, not, cond, ◌||◌, List, [], ◌∷◌, map, length, take, get_or, Fits, w8, w64, refl, sym, ap, ap₂, ◌∙◌, subst, arith}
use Rattle.std.proofs.lemmas.Bool.{both_ways, agree_below, agree_below_at, not-true, eqb-true}
use Rattle.std.proofs.lemmas.Simd.{map-map, mask_l-mod, length-chunk, length-zip2, get_or-chunk, get_or-zip2, leading_from_mask_l}
use Rattle.std.proofs.lemmas.List.{length-map, get_or-map, take-map, take-take}
use Rattle.std.proofs.lemmas.List.Sums.{prefix_len_passes}
use Rattle.std.specs.Int.{from_le_bytes}
use Rattle.std.proofs.lemmas.Nat.{or_of_8}
use Rattle.sip_message.specs.inner.Numbers.{small, filled, number_of}
use lib.Bits.{bit_xor}
use lib.Lanes.{chunk, zip2, mask_l, top}

-- two images of a list, joined element by element, are one image of it
zip2-map : (h : ℕ → ℕ → ℕ) (f g : ℕ → ℕ) (xs : List ℕ) → zip2 h (map f xs) (map g xs) ≡ map (λ x. h (f x) (g x)) xs
zip2-map h f g [] = refl
zip2-map h f g (x ∷ xs) = ap (λ r. h (f x) (g x) ∷ r) (zip2-map h f g xs)

-- an operation on the lanes of two vectors that f and g computed from v is the operation of f x and g x for each x of v
pub joined : (h : ℕ → ℕ → ℕ) (f g : ℕ → ℕ) (v : List ℕ) {a b : List ℕ} → a ≡ map f v → b ≡ map g v → zip2 h a b ≡ map (λ x. h (f x) (g x)) v
joined h f g v p q = ap₂ (zip2 h) p q ∙ zip2-map h f g v

-- where no top bit of the lanes f x is set, and each byte x whose top bit is not set passes q, the n bytes from place i on pass q
pub all_pass : (q : ℕ → Bool) (d : List ℕ) (i n : ℕ) (z : List ℕ) → i + n ≤ length d → n ≤ 64 → ((k : ℕ) → Fits w8 (get_or d k 0))
    → eqb (mask_l (map (top 7) z) % 2 ^ 64) 0 ≡ true → (f : ℕ → ℕ) → z ≡ map f (chunk i n d)
    → agree_below (λ x. top 7 (f x) || q x) (λ _. true) 256 ≡ true → (k : ℕ) → i ≤ k → k < i + n → q (get_or d k 0) ≡ true
all_pass q d i n z room few fits none f lanes all k from to =
    -- v is the n bytes, whose top bits after f make the mask
    let v = chunk i n d in
    -- the mask is that of the top bits of the lanes, each made by f of a byte
    let long = length-chunk i n d room in
    let mask = ap (λ l. mask_l l % 2 ^ 64) (ap (map (top 7)) lanes ∙ map-map (top 7) f v) ∙ mask_l-mod (map (λ x. top 7 (f x)) v) 64 (omega (arith, length-map v (λ x. top 7 (f x)))) in
    -- the mask is 0, so that all n bytes have no top bit
    let whole = leading_from_mask_l (λ x. top 7 (f x)) v (sym mask ∙ eqb-true _ 0 none) in
    -- the byte at k is the one of the lane, whose top bit is not set
    let back : i + (k - i) ≡ k = omega arith in
    let at = get_or-chunk i n d (k - i) 0 (omega arith) ∙ ap (λ j. get_or d j 0) back in
    let clear = subst (λ x. top 7 (f x) ≡ false) at (not-true _ (prefix_len_passes (λ x. not (top 7 (f x))) v (k - i) 0 (omega arith))) in
    -- each byte below 256 is tried, by computing: without the top bit it passes q
    sym (ap (λ b. b || q (get_or d k 0)) clear) ∙ agree_below_at (λ x. top 7 (f x) || q x) (λ _. true) 256 (get_or d k 0) all (fits k).fits

-- where the mask of the top bits of n lanes is 0, no top bit is set
none_set : (z : List ℕ) (n : ℕ) → length z ≡ n → n ≤ 64 → eqb (mask_l (map (top 7) z) % 2 ^ 64) 0 ≡ true → (k : ℕ) → k < n → top 7 (get_or z k 0) ≡ false
none_set z n long few none k below =
    -- the mask is 0, so no lane has its top bit set
    let whole = leading_from_mask_l (top 7) z (sym (mask_l-mod (map (top 7) z) 64 (omega (arith, length-map z (top 7), long, few))) ∙ eqb-true _ 0 none) in
    not-true _ (prefix_len_passes (λ x. not (top 7 x)) z k 0 (omega (arith, whole, long, below)))

-- where the mask of the top bits of an operation on two loads of n bytes is 0, no top bit of the operation on a pair of their bytes is set
-- a and b are made by f and g of the n bytes of d from i on and from j on, and o is the operation
pub two_clear : (d : List ℕ) (i j n : ℕ) (o : ℕ → ℕ → ℕ) (f g : ℕ → ℕ) (a b : List ℕ) → i + n ≤ length d → j + n ≤ length d → n ≤ 64 → a ≡ map f (chunk i n d) → b ≡ map g (chunk j n d)
    → eqb (mask_l (map (top 7) (zip2 o a b)) % 2 ^ 64) 0 ≡ true → (k : ℕ) → k < n → top 7 (o (f (get_or d (i + k) 0)) (g (get_or d (j + k) 0))) ≡ false
two_clear d i j n o f g a b room_i room_j few a_is b_is none k below =
    -- a, b and what joins them have n lanes each
    let long_a : length a ≡ n = ap length a_is ∙ length-map (chunk i n d) f ∙ length-chunk i n d room_i in
    let long_b : length b ≡ n = ap length b_is ∙ length-map (chunk j n d) g ∙ length-chunk j n d room_j in
    let long : length (zip2 o a b) ≡ n = length-zip2 o a b (long_a ∙ sym long_b) ∙ long_a in
    -- each pair of lanes is of the bytes at the same distance from i and from j
    let first : get_or a k 0 ≡ f (get_or d (i + k) 0) =
    ap (λ l. get_or l k 0) a_is ∙ get_or-map f (chunk i n d) k 0 0 (omega (arith, length-chunk i n d room_i, below)) ∙ ap f (get_or-chunk i n d k 0 below) in
    let second : get_or b k 0 ≡ g (get_or d (j + k) 0) =
    ap (λ l. get_or l k 0) b_is ∙ get_or-map g (chunk j n d) k 0 0 (omega (arith, length-chunk j n d room_j, below)) ∙ ap g (get_or-chunk j n d k 0 below) in
    subst (λ x. top 7 x ≡ false) (get_or-zip2 o a b k 0 0 0 (omega (arith, long_a, below)) (omega (arith, long_b, below)) ∙ ap₂ o first second) (none_set (zip2 o a b) n long few none k below)

-- where two comparisons leave lanes whose top bits do not differ, they have the same answer
pub lanes_agree : (x y : Bool) → top 7 (bit_xor (cond x 255 0) (cond y 255 0)) ≡ false → x ≡ y
-- both answers are yes, or both no
lanes_agree true true none = refl
lanes_agree false false none = refl
-- they differ, so that 255 is left, whose top bit is set
lanes_agree true false none = absurd (both_ways true none refl)
lanes_agree false true none = absurd (both_ways true none refl)

-- the number of eight bytes, moved up so that the first k are the highest, is the number of these k with NULs before them
-- b0 to b7 are the eight bytes
moved-up : (b0 b1 b2 b3 b4 b5 b6 b7 k : ℕ) → b0 < 256 → b1 < 256 → b2 < 256 → b3 < 256 → b4 < 256 → b5 < 256 → b6 < 256 → b7 < 256 → 1 ≤ k → k ≤ 8
    → from_le_bytes w64 (b0 ∷ b1 ∷ b2 ∷ b3 ∷ b4 ∷ b5 ∷ b6 ∷ b7 ∷ []) * 2 ^ (64 - 8 * k) % 2 ^ 64 ≡ from_le_bytes w64 (filled (take k (b0 ∷ b1 ∷ b2 ∷ b3 ∷ b4 ∷ b5 ∷ b6 ∷ b7 ∷ [])))
-- k is not 0
moved-up b0 b1 b2 b3 b4 b5 b6 b7 zero h0 h1 h2 h3 h4 h5 h6 h7 some few = absurd (omega (arith, some))
-- the number of bytes is 1 to 8, and each case is arithmetic
moved-up b0 b1 b2 b3 b4 b5 b6 b7 (suc zero) h0 h1 h2 h3 h4 h5 h6 h7 some few = omega (arith, h0, h1, h2, h3, h4, h5, h6, h7)
moved-up b0 b1 b2 b3 b4 b5 b6 b7 (suc (suc zero)) h0 h1 h2 h3 h4 h5 h6 h7 some few = omega (arith, h0, h1, h2, h3, h4, h5, h6, h7)
moved-up b0 b1 b2 b3 b4 b5 b6 b7 (suc (suc (suc zero))) h0 h1 h2 h3 h4 h5 h6 h7 some few = omega (arith, h0, h1, h2, h3, h4, h5, h6, h7)
moved-up b0 b1 b2 b3 b4 b5 b6 b7 (suc (suc (suc (suc zero)))) h0 h1 h2 h3 h4 h5 h6 h7 some few = omega (arith, h0, h1, h2, h3, h4, h5, h6, h7)
moved-up b0 b1 b2 b3 b4 b5 b6 b7 (suc (suc (suc (suc (suc zero))))) h0 h1 h2 h3 h4 h5 h6 h7 some few = omega (arith, h0, h1, h2, h3, h4, h5, h6, h7)
moved-up b0 b1 b2 b3 b4 b5 b6 b7 (suc (suc (suc (suc (suc (suc zero)))))) h0 h1 h2 h3 h4 h5 h6 h7 some few = omega (arith, h0, h1, h2, h3, h4, h5, h6, h7)
moved-up b0 b1 b2 b3 b4 b5 b6 b7 (suc (suc (suc (suc (suc (suc (suc zero))))))) h0 h1 h2 h3 h4 h5 h6 h7 some few = omega (arith, h0, h1, h2, h3, h4, h5, h6, h7)
moved-up b0 b1 b2 b3 b4 b5 b6 b7 (suc (suc (suc (suc (suc (suc (suc (suc zero)))))))) h0 h1 h2 h3 h4 h5 h6 h7 some few = omega (arith, h0, h1, h2, h3, h4, h5, h6, h7)
-- k is not above 8
moved-up b0 b1 b2 b3 b4 b5 b6 b7 (suc (suc (suc (suc (suc (suc (suc (suc (suc k))))))))) h0 h1 h2 h3 h4 h5 h6 h7 some few = absurd (omega (arith, few))

-- the number of eight bytes in small letters, moved up so that the first k are the highest, is the number that the first k write
pub number-front : (window : List ℕ) (k : ℕ) → 8 ≤ length window → ((i : ℕ) → Fits w8 (get_or window i 0)) → 1 ≤ k → k ≤ 8
    → from_le_bytes w64 (map small (take 8 window)) * 2 ^ (64 - 8 * k) % 2 ^ 64 ≡ number_of (take k window)
number-front [] k room fits some few = absurd (omega (arith, room))
number-front (b0 ∷ []) k room fits some few = absurd (omega (arith, room))
number-front (b0 ∷ b1 ∷ []) k room fits some few = absurd (omega (arith, room))
number-front (b0 ∷ b1 ∷ b2 ∷ []) k room fits some few = absurd (omega (arith, room))
-- fewer than eight bytes are no window
number-front (b0 ∷ b1 ∷ b2 ∷ b3 ∷ []) k room fits some few = absurd (omega (arith, room))
number-front (b0 ∷ b1 ∷ b2 ∷ b3 ∷ b4 ∷ []) k room fits some few = absurd (omega (arith, room))
number-front (b0 ∷ b1 ∷ b2 ∷ b3 ∷ b4 ∷ b5 ∷ []) k room fits some few = absurd (omega (arith, room))
number-front (b0 ∷ b1 ∷ b2 ∷ b3 ∷ b4 ∷ b5 ∷ b6 ∷ []) k room fits some few = absurd (omega (arith, room))
-- eight bytes or more: the first eight make the number
number-front (b0 ∷ b1 ∷ b2 ∷ b3 ∷ b4 ∷ b5 ∷ b6 ∷ b7 ∷ rest) k room fits some few =
    moved-up (small b0) (small b1) (small b2) (small b3) (small b4) (small b5) (small b6) (small b7) k (or_of_8 b0 32 (fits 0).fits (omega arith)) (or_of_8 b1 32 (fits 1).fits (omega arith)) (or_of_8 b2 32 (fits 2).fits (omega arith)) (or_of_8 b3 32 (fits 3).fits (omega arith)) (or_of_8 b4 32 (fits 4).fits (omega arith)) (or_of_8 b5 32 (fits 5).fits (omega arith)) (or_of_8 b6 32 (fits 6).fits (omega arith)) (or_of_8 b7 32 (fits 7).fits (omega arith)) some few ∙ ap (λ t. from_le_bytes w64 (filled t)) (take-map small k (b0 ∷ b1 ∷ b2 ∷ b3 ∷ b4 ∷ b5 ∷ b6 ∷ b7 ∷ []) ∙ ap (map small) (take-take k 8 (b0 ∷ b1 ∷ b2 ∷ b3 ∷ b4 ∷ b5 ∷ b6 ∷ b7 ∷ rest) few))
