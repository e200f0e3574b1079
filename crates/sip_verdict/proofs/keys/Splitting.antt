-- How two splits of one list lie to each other.
use Rattle.std.proofs.Common.{◌≡◌, ◌⊎◌, inl, inr, List, [], ◌∷◌, ◌++◌, refl}

-- two splits of one list are at the same place, or one is before the other
-- the one split is at x, with xs before it and us after it, and the other at y, with ys before it and vs after it
pub split_compare : {A : Type 0} (xs us ys vs : List A) (x y : A) → xs ++ x ∷ us ≡ ys ++ y ∷ vs
    → ((xs ≡ ys) × (x ≡ y)) ⊎ (((zs : List A) × (ys ≡ xs ++ x ∷ zs)) ⊎ ((zs : List A) × (xs ≡ ys ++ y ∷ zs)))
-- where one split is at the front, the other is there too, or comes after it
split_compare [] us [] vs x y e = inl (refl, cc)
split_compare [] us (b ∷ ys) vs x y e = inr (inl (ys, cc))
split_compare (a ∷ xs) us [] vs x y e = inr (inr (xs, cc))
-- both splits have the first element before them, and go on in the rest
split_compare {A} (a ∷ xs) us (b ∷ ys) vs x y e = go (split_compare xs us ys vs x y (cc))
  where
    -- the two splits are at one place or one is before the other, as those of the tails are
    go : ((xs ≡ ys) × (x ≡ y)) ⊎ (((zs : List A) × (ys ≡ xs ++ x ∷ zs)) ⊎ ((zs : List A) × (xs ≡ ys ++ y ∷ zs)))
        → ((a ∷ xs ≡ b ∷ ys) × (x ≡ y)) ⊎ (((zs : List A) × (b ∷ ys ≡ (a ∷ xs) ++ x ∷ zs)) ⊎ ((zs : List A) × (a ∷ xs ≡ (b ∷ ys) ++ y ∷ zs)))
    go (inl h) = inl (cc, h.1)
    go (inr (inl h)) = inr (inl (h.0, cc))
    go (inr (inr h)) = inr (inr (h.0, cc))
