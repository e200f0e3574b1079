-- Sets of texts, and how sets are made of sets: the algebra of ABNF (RFC 5234, sections 3 and 4).
-- A text is a list of bytes, and a set of texts is a fact about a text.
use Rattle.std.specs.Prelude.{◌≡◌, ℕ, ◌≤◌, ◌⊎◌, Bool, List, [], ◌∷◌, ◌++◌, length, IsTrue}
use Rattle.std.specs.List.{AllByRecursion, concat}

-- one byte that passes the test: a class of bytes, as %x30-39
abbrev pub One : (ℕ → Bool) → List ℕ → Type 0
One test text = (byte : ℕ) × IsTrue (test byte) × (text ≡ byte ∷ [])

-- these bytes alone, as "::"
abbrev pub Exactly : List ℕ → List ℕ → Type 0
Exactly bytes text = text ≡ bytes

-- P Q: a text of P, and after it one of Q
infixr 40 ◌then◌
abbrev pub ◌then◌ : (List ℕ → Type 0) → (List ℕ → Type 0) → List ℕ → Type 0
(P then Q) text = (u : List ℕ) × (v : List ℕ) × P u × Q v × (text ≡ u ++ v)

-- P / Q: a text of P, or one of Q
infixr 30 ◌or◌
abbrev pub ◌or◌ : (List ℕ → Type 0) → (List ℕ → Type 0) → List ℕ → Type 0
(P or Q) text = P text ⊎ Q text

-- [ P ]: a text of P, or none
abbrev pub Optional : (List ℕ → Type 0) → List ℕ → Type 0
Optional P text = (text ≡ []) ⊎ P text

-- *P: any number of texts of P, one after the other
abbrev pub Many : (List ℕ → Type 0) → List ℕ → Type 0
Many P text = (pieces : List (List ℕ)) × AllByRecursion P pieces × (text ≡ concat pieces)

-- 1*P: one text of P or more
abbrev pub OneOrMore : (List ℕ → Type 0) → List ℕ → Type 0
OneOrMore P = P then Many P

-- <low>*<high>P: from low to high texts of P
abbrev pub Between : ℕ → ℕ → (List ℕ → Type 0) → List ℕ → Type 0
Between low high P text =
    (pieces : List (List ℕ)) × AllByRecursion P pieces × (text ≡ concat pieces)
    × (low ≤ length pieces) × (length pieces ≤ high)
