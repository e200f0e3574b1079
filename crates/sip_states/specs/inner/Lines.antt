-- The last moments on record with their indices, as the lines of an ordered set.
use Rattle.std.specs.Prelude.{◌≡◌, ◌↔◌, ◌⊎◌, ◌==◌, ◌-◌, if◌then◌else◌, ℕ, true, Option, None, Some, slice_get}
use Rattle.std.specs.Ordering.{nat_cmp, ordering_then}
use Rattle.std.specs.declared.cmp.Ordering.{Ordering}
use Rattle.std.specs.BTreeSet.{BTreeSet, contains}
use Rattle.sip_states.specs.Agenda.{Records}

-- what is on record where this number stands for it: 0 for an index that is not settled, 1 for no last moment, and another one for the last moment that is 2 below it
abbrev pub recorded : ℕ → Option (Option ℕ)
recorded raised = if raised == 0 then None else if raised == 1 then Some None else Some (Some (raised - 2))

-- the order of lines: by last moment, and then by index
abbrev pub line_cmp : ℕ × ℕ → ℕ × ℕ → Ordering
line_cmp x y = ordering_then (nat_cmp x.0 y.0) (nat_cmp x.1 y.1)

-- the line is in the order
abbrev pub HasLine : BTreeSet (ℕ × ℕ) → ℕ × ℕ → Type 0
HasLine order line = contains line_cmp order line ≡ true

-- the lines of the order are the last moments on record
abbrev pub IsInOrder : Records → BTreeSet (ℕ × ℕ) → Type 0
IsInOrder records order = (line : ℕ × ℕ) → HasLine order line ↔ (slice_get records line.1 ≡ Some (Some (Some line.0)))

-- the line is the one of this index, which has this last moment; an index without a last moment has no line
abbrev pub IsLineOf : ℕ → Option ℕ → ℕ × ℕ → Type 0
IsLineOf index limit line = (line.1 ≡ index) × (limit ≡ Some line.0)

-- the new order has the lines of the old one and the line of this index
abbrev pub Enters : ℕ → Option ℕ → BTreeSet (ℕ × ℕ) → BTreeSet (ℕ × ℕ) → Type 0
Enters index limit old new = (line : ℕ × ℕ) → HasLine new line ↔ (HasLine old line ⊎ IsLineOf index limit line)

-- the new order has the lines of the old one without the line of this index
abbrev pub Leaves : ℕ → Option ℕ → BTreeSet (ℕ × ℕ) → BTreeSet (ℕ × ℕ) → Type 0
Leaves index limit old new = (line : ℕ × ℕ) → HasLine new line ↔ (HasLine old line × ¬ IsLineOf index limit line)
