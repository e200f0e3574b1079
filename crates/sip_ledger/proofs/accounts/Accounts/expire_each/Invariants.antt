use Rattle.sip_ledger.proofs.Lemmas.{changing, counts_at, filter, ◌≡◌, ◌≤◌}
use Rattle.sip_ledger.proofs.accounts.Accounts.expire_each.Given as goal

-- the rows from `from` up to the index have lost what is past, and the others are as they were (`changing`)
abbrev pub invariant-loop-row : goal.invariant-loop-row
invariant-loop-row l = (l.from ≤ l.row) × (l.self ≡ changing (filter (counts_at l.moment)) l.from l.row l.initial.self)
