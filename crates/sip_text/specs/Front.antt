-- What a reader finds at the front of a text.
use Rattle.std.specs.Prelude.{◌≡◌, ℕ, ◌≤◌, ◌⊎◌, List, ◌++◌, length, Option, None, Some}

-- the first n bytes of the text are a text of P
abbrev pub HasFront : (List ℕ → Type 0) → List ℕ → ℕ → Type 0
HasFront P text n = (u : List ℕ) × (v : List ℕ) × P u × (text ≡ u ++ v) × (n ≡ length u)

-- n is the length of the longest front that is a text of P, and 0 if there is none
pub record IsLongestFront (P : List ℕ → Type 0) (text : List ℕ) (n : ℕ) : Type 0 where
  pub front : (n ≡ 0) ⊎ HasFront P text n
  pub longest : (m : ℕ) → HasFront P text m → m ≤ n

-- the length of the one front that is a text of P, or None if there is no such front
abbrev pub IsOnlyFront : (List ℕ → Type 0) → List ℕ → Option ℕ → Type 0
IsOnlyFront P text None = (n : ℕ) → ¬ (HasFront P text n)
IsOnlyFront P text (Some n) = HasFront P text n × ((m : ℕ) → HasFront P text m → m ≡ n)
