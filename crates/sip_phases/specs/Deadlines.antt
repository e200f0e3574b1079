-- Which debts are owed still at a moment, and up to when a state may wait for them.
use Rattle.std.specs.Prelude.{◌||◌, ℕ, Option, None, List, filter, map, nat_le, if◌then◌else◌}
use Rattle.std.specs.List.{list_any}
use Rattle.sip_standard.specs.Debts.{Owed}

-- what is still owed at t: what must be sent, and what may be sent and has a deadline that is not before t
abbrev pub unexpired : ℕ → List Owed → List Owed
unexpired t owes = filter (λ owed. owed.must || nat_le t owed.deadline) owes

-- the deadlines of what must be sent
abbrev pub must_deadlines : List Owed → List ℕ
must_deadlines owes = map (λ owed. owed.deadline) (filter (λ owed. owed.must) owes)

-- the window of an end: there is none while something must be sent
abbrev pub unless_owed : List Owed → Option (ℕ × Option ℕ) → Option (ℕ × Option ℕ)
unless_owed owes window = if list_any (λ owed. owed.must) owes then None else window
