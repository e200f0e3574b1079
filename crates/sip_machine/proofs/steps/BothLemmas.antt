-- At most two states of the code stand for all to which an event leads.
use Rattle.sip_machine.proofs.Words.{◌≡◌, ◌≢◌, ◌↔◌, ◌⊎◌, ℕ, Option, Some, None, List, [], ◌∷◌, refl, arith, nat_tests, AllPairs, AllPairs-cons, ◌++◌, map, option_to_list, Texts, StandFor, OrStays, AnswersOne, AnswersBoth}
use Rattle.sip_machine.proofs.steps.SingleLemmas.{StandFor-none, StandFor-one}
use Rattle.sip_machine.proofs.pools.CoversLemmas.{Covers-both, Covers-one}

-- What follows is of states of the code: `names` gives the numbers that one names, InRange says that they are in range,
-- and `seen` gives what it stands for beside the book `texts`.
module _ {X S : Type 0} (names : S → List ℕ) (InRange : S → Type 0) (seen : Texts → S → X) (texts : Texts) where
  -- where P and Q hold of the same, states that stand for P stand for Q
  pub StandFor-same : (P Q : X → Type 0) → ((x : X) → P x ↔ Q x) → (xs : List S) → StandFor names InRange seen texts P xs →
      StandFor names InRange seen texts Q xs
  StandFor-same P Q same xs stand = grind (arith, nat_tests)

  -- an answer for P, and no second one, stand for P
  pub AnswersBoth-one : (P : X → Type 0) (a : Option S) → AnswersOne names InRange seen texts P a → AnswersBoth names InRange seen texts P (a, None)
  AnswersBoth-one P None none = StandFor-none names InRange seen texts P none
  AnswersBoth-one P (Some s) one = StandFor-one names InRange seen texts P s one

  -- where P and Q exclude each other, an answer for P and one for Q stand for different states
  -- a is the answer for P and b the one for Q
  differ : (P Q : X → Type 0) → ((x : X) → P x → Q x → ⊥) → (a b : Option S) → AnswersOne names InRange seen texts P a → AnswersOne names InRange seen texts Q b →
      AllPairs (λ x y. x ≢ y) (map (seen texts) (option_to_list a ++ option_to_list b))
  differ P Q apart None None one other = λ i j d low high. absurd (omega arith)
  differ P Q apart None (Some t) one other = λ i j d low high. absurd (omega arith)
  differ P Q apart (Some s) None one other = λ i j d low high. absurd (omega arith)
  differ P Q apart (Some s) (Some t) one other =
      AllPairs-cons (λ x y. x ≢ y) (seen texts s) (seen texts t ∷ []) (λ k d low. grind (arith, nat_tests, one.only (seen texts s), other.only (seen texts s), apart (seen texts s)))
      (λ i j d low high. absurd (omega arith))

  -- where P and Q exclude each other, an answer for P and one for Q stand for P or Q
  pub AnswersBoth-two : (P Q : X → Type 0) → ((x : X) → P x → Q x → ⊥) → (a b : Option S) → AnswersOne names InRange seen texts P a →
      AnswersOne names InRange seen texts Q b → AnswersBoth names InRange seen texts (λ x. P x ⊎ Q x) (a, b)
  AnswersBoth-two P Q apart a b one other =
      let both = Covers-both names InRange seen texts P Q (option_to_list a) (option_to_list b) (Covers-one names InRange seen texts P a one) (Covers-one names InRange seen texts Q b other) in
      record { members = both.members; distinct = differ P Q apart a b one other; known = both.known; in_range = both.in_range }

-- where P holds of z alone, a received message that leads where P says leads to z alone
-- x is the state before the message, and y any state to which it leads
pub OrStays-one : {X : Type 0} (P : X → Type 0) (x z : X) → ((y : X) → P y ↔ (y ≡ z)) → (y : X) → OrStays P x y ↔ (y ≡ z)
OrStays-one P x z only y = grind (arith, nat_tests, only y, (only z).1 refl)
