use Rattle.sip_ledger.proofs.Lemmas.{get_or, length, owed_in, vec_capacity, ℕ, ◌+◌, ◌-◌, ◌<◌, ◌≡◌, ◌≤◌, ◌⊎◌}
use Rattle.sip_ledger.specs.Accounts.{front_print}
use Rattle.sip_ledger.proofs.accounts.Accounts.prints.Given as goal

-- the prints of the rows from `from` up to the index are in the list, which has room for those of all rows; the index is no further than the rows go, or
-- than `from` where no row is from there on
abbrev pub invariant-loop-row : goal.invariant-loop-row
invariant-loop-row l = (l.from ≤ l.row) × ((l.row ≤ length l.self) ⊎ (l.row ≤ l.from)) × (length l.prints.items ≡ l.row - l.from) × (length l.self - l.from ≤ vec_capacity l.prints)
    × ((k : ℕ) → l.from + k < l.row → get_or l.prints.items k 0 ≡ front_print l.most (owed_in l.self (l.from + k)))
