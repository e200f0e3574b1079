-- The one answer that stands for the only state of which something holds.
use Rattle.std.specs.Prelude.{◌≡◌, ◌↔◌, ℕ, Option, Some, None, List}
use Rattle.sip_machine.specs.Texts.{Texts}
use Rattle.sip_machine.specs.Rules.{Knows}

-- the code's state s stands for the only state of which P holds; the book keeps what it names
pub record IsTheOne {X S : Type 0} (names : S → List ℕ) (InRange : S → Type 0) (seen : Texts → S → X)
    (texts : Texts) (P : X → Type 0) (s : S) : Type 0 where
  pub only : (x : X) → P x ↔ (x ≡ seen texts s)
  pub known : Knows names texts s
  pub in_range : InRange s

-- the answer stands for the only state of which P holds; where there is no answer, P holds of none
abbrev pub AnswersOne : {X S : Type 0} → (S → List ℕ) → (S → Type 0) → (Texts → S → X) → Texts → (X → Type 0) →
    Option S → Type 0
AnswersOne {X} names InRange seen texts P None = (x : X) → P x → ⊥
AnswersOne names InRange seen texts P (Some s) = IsTheOne names InRange seen texts P s
