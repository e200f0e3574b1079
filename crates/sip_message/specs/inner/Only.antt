-- The one value of which a fact holds: what a reader finds, and the value without a choice of its proof.
use Rattle.std.specs.Prelude.{◌≡◌, ℕ, List, Option, None, Some}

-- R holds of this value, and of no other
pub record IsOnly {X : Type 0} (R : X → Type 0) (x : X) : Type 0 where
  pub is : R x
  pub only : (y : X) → R y → y ≡ x

-- ∥ P ∥₁ says that P holds, and leaves open by which proof.
-- there is a value of which R holds, and R holds of no other
abbrev pub ExactlyOne : {X : Type 0} → (X → Type 0) → Type 0
ExactlyOne {X = X} R = (x : X) × ∥ IsOnly R x ∥₁

-- the value of which R holds
unfoldable pub the : {X : Type 0} {R : X → Type 0} → ExactlyOne R → X
the one = one.0

-- the one value, seen as its parts, that R relates to the text, or None if R relates none to it
abbrev pub IsOnlyValue : {A X : Type 0} → (List ℕ → X → Type 0) → (A → X) → List ℕ → Option A → Type 0
IsOnlyValue {X = X} R parts text None = (x : X) → ¬ (R text x)
IsOnlyValue {X = X} R parts text (Some a) =
    R text (parts a) × ((x : X) → R text x → x ≡ parts a)
