-- Lists of numbers of messages, to which those that states name are appended.
use Rattle.std.specs.Prelude.{◌≡◌, ◌↔◌, ◌++◌, ℕ, List, Contains}

-- the new list is the old one and then these numbers, each at least once, and no others
abbrev pub AppendsAll : List ℕ → List ℕ → List ℕ → Type 0
AppendsAll numbers old new = (added : List ℕ) × (new ≡ old ++ added) × ((n : ℕ) → Contains added n ↔ Contains numbers n)
