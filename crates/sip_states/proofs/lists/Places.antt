-- What stands at a place of a list, where an element was put at one or after all.
use Rattle.std.proofs.Common.{◌≡◌, ◌≢◌, ◌<◌, ◌⊎◌, inl, inr, ℕ, zero, suc, Some, List, [], ◌∷◌, ◌++◌, length, slice_get, slice_set, refl, sym, ap, arith}

-- an element found after a write is the one that was written, at that place, or it stood at another place before
-- a is written at the place i, and x is found at the place n
pub set_place : {A : Type 0} (xs : List A) (i n : ℕ) (a x : A) → slice_get (slice_set xs i a) n ≡ Some x → ((n ≡ i) × (a ≡ x)) ⊎ ((n ≢ i) × (slice_get xs n ≡ Some x))
-- a write at the first place leaves the others, and one at a later place is a write behind the first
set_place [] i n a x at = absurd cc
set_place (u ∷ xs) zero zero a x at = inl (refl, cc)
set_place (u ∷ xs) zero (suc n) a x at = inr (λ same. omega (arith, same), at)
set_place (u ∷ xs) (suc i) zero a x at = inr (λ same. omega (arith, same), at)
set_place (u ∷ xs) (suc i) (suc n) a x at =
    elim (set_place xs i n a x at) [ inl h ↦ inl (ap suc h.0, h.1) | inr h ↦ inr (λ same. h.0 (omega (arith, same)), h.1) ]

-- the element at a place, where one more was put after all
pub push_place : {A : Type 0} (xs : List A) (a : A) (n : ℕ) (x : A) → slice_get (xs ++ a ∷ []) n ≡ Some x → (slice_get xs n ≡ Some x) ⊎ ((n ≡ length xs) × (a ≡ x))
push_place [] a zero x at = inr (refl, cc)
push_place [] a (suc n) x at = absurd cc
push_place (u ∷ xs) a zero x at = inl at
push_place (u ∷ xs) a (suc n) x at = elim (push_place xs a n x at) [ inl h ↦ inl h | inr h ↦ inr (ap suc h.0, h.1) ]

-- what was put at a place is there
pub set_here : {A : Type 0} (xs : List A) (i : ℕ) (a : A) → i < length xs → slice_get (slice_set xs i a) i ≡ Some a
set_here [] i a low = absurd (omega arith)
set_here (x ∷ xs) zero a low = refl
set_here (x ∷ xs) (suc i) a low = set_here xs i a (omega arith)

-- what stood at another place is still there
-- a is written at the place i, and x stands at the place n
pub set_other : {A : Type 0} (xs : List A) (i n : ℕ) (a x : A) → n ≢ i → slice_get xs n ≡ Some x → slice_get (slice_set xs i a) n ≡ Some x
set_other [] i n a x differ at = absurd cc
set_other (u ∷ xs) zero zero a x differ at = absurd (differ refl)
set_other (u ∷ xs) zero (suc n) a x differ at = at
set_other (u ∷ xs) (suc i) zero a x differ at = at
set_other (u ∷ xs) (suc i) (suc n) a x differ at = set_other xs i n a x (λ same. differ (ap suc same)) at

-- an element that stands there already changes nothing
pub set_still : {A : Type 0} (xs : List A) (i : ℕ) (a : A) → slice_get xs i ≡ Some a → slice_set xs i a ≡ xs
set_still [] i a at = absurd cc
set_still (u ∷ xs) zero a at = (let same : u ≡ a = cc in (λ k. sym same k ∷ xs))
set_still (u ∷ xs) (suc i) a at = (λ k. u ∷ set_still xs i a at k)

-- of two writes to one place the second stays
pub set_twice : {A : Type 0} (xs : List A) (i : ℕ) (a b : A) → slice_set (slice_set xs i a) i b ≡ slice_set xs i b
set_twice [] i a b = refl
set_twice (x ∷ xs) zero a b = refl
set_twice (x ∷ xs) (suc i) a b = ap (λ ys. x ∷ ys) (set_twice xs i a b)

-- an element in the middle of a list stands at the place after those before it
pub middle_place : {A : Type 0} (before : List A) (x : A) (rest : List A) → slice_get (before ++ x ∷ rest) (length before) ≡ Some x
middle_place [] x rest = refl
middle_place (u ∷ before) x rest = middle_place before x rest
