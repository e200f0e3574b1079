-- The one value of which a fact holds: there is one at most, whatever the proof of the fact is.
-- ∥ Q x ∥₁ says that Q holds of x, and leaves open by which proof.
use Rattle.std.specs.Prelude.{◌≡◌}
use Rattle.std.specs.Coded.{Coded, Coded-set}
use Rattle.std.proofs.Math.Logic.{∥∥₁_elim, ∥∥₁_prop}
use mathlib.Core.HLevel.{Σ_prop_path}

-- there is at most one value of which Q holds, where values are coded and Q holds of one at most
-- u and v are two such values, and by which proofs makes no difference
pub One-prop : {X : Type 0} → Coded X → (Q : X → Type 0) → ((x y : X) → Q x → Q y → x ≡ y) → IsProp ((x : X) × ∥ Q x ∥₁)
One-prop c Q same u v =
    Σ_prop_path (λ _. ∥∥₁_prop) (∥∥₁_elim u.1 (Coded-set c u.0 v.0) (λ p. ∥∥₁_elim v.1 (Coded-set c u.0 v.0) (λ q. same u.0 v.0 p q)))
