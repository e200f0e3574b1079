-- The head of a message and its lines (RFC 3261, sections 7 and 7.3.1).
use Rattle.std.specs.Prelude.{◌≡◌, ◌||◌, ◌==◌, ℕ, ◌≤◌, List, [], ◌∷◌, ◌++◌, length, flat_map, codes, IsTrue}
use Rattle.std.specs.List.{AllByRecursion}

-- the head, which is what stands before the first empty line, and the rest, which stands after it (section 7)
pub record CutSays (bytes : List ℕ) (cut : List ℕ × List ℕ) : Type 0 where
  pub front : List ℕ
  pub head_is : cut.0 ≡ front ++ codes "\r\n"
  pub whole : bytes ≡ front ++ (codes "\r\n" ++ (codes "\r\n" ++ cut.1))
  pub first : (u v : List ℕ) → bytes ≡ u ++ (codes "\r\n" ++ (codes "\r\n" ++ v)) → length front ≤ length u

-- the text begins with SP or HTAB
abbrev pub OpensBlank : List ℕ → Type 0
OpensBlank [] = ⊥
OpensBlank (byte ∷ text) = IsTrue (byte == 0x20 || byte == 0x09)

-- the lines of a head: it is cut at each CRLF that no blank follows (section 7.3.1)
pub record LinesSay (head first : List ℕ) (others : List (List ℕ)) : Type 0 where
  pub whole : head ≡ flat_map (λ line. line ++ codes "\r\n") (first ∷ others)
  pub folded : AllByRecursion (λ line. (u v : List ℕ) → line ≡ u ++ (codes "\r\n" ++ v) → OpensBlank v) (first ∷ others)
  pub cut : AllByRecursion (λ line. ¬ (OpensBlank line)) others
