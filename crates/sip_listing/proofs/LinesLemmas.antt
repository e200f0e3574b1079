-- How lines are put together: an order that a map keeps, and a text that was appended in five pieces.
use Rattle.std.specs.Prelude.{◌≡◌, ◌++◌, ◌+◌, ◌<◌, ℕ, Bool, List, [], ◌∷◌, length, map}
use Rattle.std.specs.List.Sorted.{IsSortedBy}
use Rattle.std.proofs.Common.{refl, subst, arith, append_assoc}
use Rattle.std.proofs.lemmas.List.{get_or-map, length-map}

-- where a list ascends by the values that f gives, the list of these values ascends
pub IsSortedBy-map : {X Y : Type 0} (f : X → Y) (lt : Y → Y → Bool) (xs : List X) → IsSortedBy (λ x y. lt (f x) (f y)) xs → IsSortedBy lt (map f xs)
IsSortedBy-map f lt [] sorted = λ k d low high. absurd (omega arith)
IsSortedBy-map f lt (x ∷ xs) sorted =
    λ k d low high.
    -- the element at k and the one after it are in the list where their values are in the list of the values
    let within : k + 1 < length (x ∷ xs) = subst (λ n. k + 1 < n) (length-map (x ∷ xs) f) high in
    let before : k < length (x ∷ xs) = omega arith in
    rw (get_or-map f (x ∷ xs) (k + 1) x d within, get_or-map f (x ∷ xs) k x d before) (sorted k x low within)

-- a text to which five pieces were appended, one after the other, is the text and the five pieces
-- a to e are the pieces, and after_a to after_e the text once each was appended
pub five_appended : (old a b c d e after_a after_b after_c after_d after_e : List ℕ) → after_a ≡ old ++ a → after_b ≡ after_a ++ b →
    after_c ≡ after_b ++ c → after_d ≡ after_c ++ d → after_e ≡ after_d ++ e → after_e ≡ old ++ (a ++ b ++ c ++ d ++ e)
five_appended old a b c d e after_a after_b after_c after_d after_e first second third fourth fifth =
    rw (fifth, fourth, third, second, first) (simp append_assoc refl)
