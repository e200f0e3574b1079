use Rattle.sip_ledger.proofs.Lemmas.{accounts_debts, ArePaidTo, IsSeek, ◌≤◌, ◌⊎◌}
use Rattle.sip_ledger.proofs.accounts.each.push_some.Given as goal

-- what is left to the paid rows from `from` up to the index stands after the others, and what `seek` knows is right; the index is no further than `to`, or
-- than `from` where that is after `to`
abbrev pub invariant-loop-row : goal.invariant-loop-row
invariant-loop-row l = (l.from ≤ l.row) × ((l.row ≤ l.to) ⊎ (l.row ≤ l.from)) × IsSeek l.gains l.message l.seek
    × ArePaidTo l.gains l.message l.moment l.from l.row (accounts_debts l.gains l.fn.strikes.items l.fn.rows.items) l.strikes.items l.rows.items
