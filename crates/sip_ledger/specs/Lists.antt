use Rattle.std.specs.Prelude.{◌<◌, ℕ, length, List, drop, get_or, take}

-- Parts of lists, and lists of numbers that rise.

-- the elements of a list from one index up to another
abbrev pub from_to : {X : Type 0} → ℕ → ℕ → List X → List X
from_to from to xs = drop from (take to xs)

-- each number of the list is greater than those before it
abbrev pub Rise : List ℕ → Type 0
Rise numbers = (i k : ℕ) → i < k → k < length numbers → get_or numbers i 0 < get_or numbers k 0
