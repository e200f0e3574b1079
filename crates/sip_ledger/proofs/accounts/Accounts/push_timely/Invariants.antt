use Rattle.sip_ledger.proofs.Lemmas.{filter, from_to, is_timely, length, ◌++◌, ◌≡◌, ◌≤◌, ◌⊎◌}
use Rattle.sip_ledger.proofs.accounts.Accounts.push_timely.Given as goal

-- the timely rows from `from` up to the index stand after the others; the index is no further than `to`, or than `from` where that is after `to`
abbrev pub invariant-loop-row : goal.invariant-loop-row
invariant-loop-row l = (l.from ≤ l.row) × ((l.row ≤ l.to) ⊎ (l.row ≤ l.from)) × (l.before ≡ length l.initial.self)
    × (l.self ≡ l.initial.self ++ filter (is_timely l.moment) (from_to l.from l.row l.initial.self))
