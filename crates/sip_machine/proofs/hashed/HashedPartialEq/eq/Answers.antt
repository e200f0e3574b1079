use Rattle.std.specs.Prelude.{◌≡◌, ℕ, Bool, true, false, List, bytes_eq}
use Rattle.std.specs.Cmp.Lexicographic.{bytes_decides}
use Rattle.std.proofs.Common.{refl, ap, sym, ◌∙◌}
use Rattle.sip_machine.specs.inner.Order.{full_hash}
use Rattle.sip_machine.proofs.Words.{ne_eqb}
use Rattle.sip_machine.proofs.texts.HashLaws.{text_ties}
use Rattle.sip_machine.proofs.hashed.HashedPartialEq.eq.Goals as goal

-- where the hashes of two texts differ, the texts do
-- a and b are the texts, and s is whether their bytes are equal
others-differ : (a b : List ℕ) → (full_hash a ≡ full_hash b → ⊥) → (s : Bool) → bytes_eq a b ≡ s → false ≡ s
others-differ a b other true same = absurd (other (ap full_hash ((bytes_decides a b).0 same)))
others-differ a b other false same = refl

-- texts with one hash are the same where their bytes are
pub returns-then-self-other : goal.returns-then-self-other
returns-then-self-other c =
    (rw (c.as_slice.ensures.value, c.as_slice-then-self-other.ensures.value, c.self.view_is, c.other.view_is) at c.eq.ensures)
    ∙ text_ties c.args.self.now c.args.other.now

-- texts with two hashes are not the same
pub returns-else-self-other : goal.returns-else-self-other
returns-else-self-other c =
    ne_eqb _ _ c.if-self-other.false
    ∙ others-differ c.args.self.now c.args.other.now (λ same.
    c.if-self-other.false (c.self.invariant ∙ ap full_hash c.self.view_is ∙ same ∙ sym (c.other.invariant ∙ ap full_hash c.other.view_is))) _ refl
    ∙ text_ties c.args.self.now c.args.other.now
