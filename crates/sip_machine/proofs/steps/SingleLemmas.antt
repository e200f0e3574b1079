-- No state of the code, or one alone, stands for all to which an event leads.
use Rattle.std.proofs.Common.{◌≡◌, inl, inr, ℕ, List, [], ◌∷◌, refl, arith}
use Rattle.std.proofs.lemmas.Bool.Decides.{nat_tests}
use Rattle.std.proofs.lemmas.List.Elements.{All-nil, All-cons, Contains-push, Contains-push_cases}
use Rattle.sip_machine.specs.Texts.{Texts}
use Rattle.sip_machine.proofs.texts.TextLaws.{Contains-nil}
use Rattle.sip_machine.specs.Rules.{Knows, StandFor}
use Rattle.sip_machine.specs.inner.Single.{IsTheOne}

-- where P holds of nothing, no state stands for it
pub StandFor-none : {X S : Type 0} (names : S → List ℕ) (InRange : S → Type 0) (seen : Texts → S → X)
    (texts : Texts) (P : X → Type 0) →
    ((x : X) → P x → ⊥) → StandFor names InRange seen texts P []
StandFor-none {X} {S} names InRange seen texts P none = grind (arith, nat_tests, Contains-nil, All-nil)

-- a state of the code that stands for the only one of which P holds stands for P by itself
pub StandFor-one : {X S : Type 0} (names : S → List ℕ) (InRange : S → Type 0) (seen : Texts → S → X)
    (texts : Texts) (P : X → Type 0) (s : S) →
    IsTheOne names InRange seen texts P s → StandFor names InRange seen texts P (s ∷ [])
StandFor-one {X} {S} names InRange seen texts P s one =
    record {
      members = λ x. (
        -- the list has just what s stands for, and P holds just of that
        λ h. elim (Contains-push_cases [] (seen texts s) x h) [ inl none ↦ absurd (Contains-nil x none) | inr e ↦ rw (← e) ((one.only (seen texts s)).1 refl) ],
        λ h. let e : x ≡ seen texts s = (one.only x).0 h in rw e (Contains-push [] (seen texts s)),
      );
      -- there is one state, the book has what it names, and it is in range
      distinct = λ i j d low high. absurd (omega arith);
      known = All-cons (Knows names texts) s [] one.known (All-nil (Knows names texts));
      in_range = All-cons InRange s [] one.in_range (All-nil InRange);
    }
