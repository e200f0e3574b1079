-- What a machine owes, oldest cause first: replies to repeated requests (RFC 3261 sections 17.2.1 and 17.2.2), and ACKs (section 17.1.1.2).
use Rattle.std.specs.Prelude.{◌≡◌, ℕ, Bool, false, List, ◌∷◌, ◌++◌, All, map}

-- a message that is to be sent by its deadline, or that may be sent until then
pub record Owed : Type 0 where
  pub message : List ℕ
  pub deadline : ℕ
  pub must : Bool

-- the debts with each made one that may be sent and need not be
abbrev pub softened : List Owed → List Owed
softened owes = map (λ owed. record { message = owed.message; deadline = owed.deadline; must = false }) owes

-- ys are xs without the first one of which P holds
pub record IsWithoutFirst {X : Type 0} (P : X → Type 0) (xs ys : List X) : Type 0 where
  pub before : List X
  pub first : X
  pub after : List X
  pub whole : xs ≡ before ++ first ∷ after
  pub holds : P first
  pub none_before : All (λ x. ¬ (P x)) before
  pub rest : ys ≡ before ++ after
