-- The lines of the states in a listing.
use Rattle.std.specs.Prelude.{◌≢◌, ◌↔◌, ◌++◌, ℕ, List, AllPairs, Contains, codes, map}
use Rattle.std.specs.Ordering.{nat_cmp}
use Rattle.std.specs.List.Sorted.{IsSorted, IsPermutation}
use Rattle.std.specs.List.{flat_map}
use Rattle.std.specs.Cmp.Lexicographic.{slice_cmp}

-- the lines are these texts, in ascending order of their bytes
pub record AreInOrder (texts lines : List (List ℕ)) : Type 0 where
  pub same : IsPermutation texts lines
  pub ascending : IsSorted (slice_cmp nat_cmp) lines

-- the lines are the texts of exactly the states of which P holds, each state once
pub record AreLinesOf {X : Type 0} (text : X → List ℕ) (P : X → Type 0) (lines : List (List ℕ)) : Type 0 where
  pub states : List X
  pub members : (x : X) → Contains states x ↔ P x
  pub distinct : AllPairs (λ x y. x ≢ y) states
  pub in_order : AreInOrder (map text states) lines

-- lines as they stand in a listing: after two blanks, and with a line end
abbrev pub indented : List (List ℕ) → List ℕ
indented lines = flat_map (λ line. codes "  " ++ line ++ codes "\n") lines
