use Rattle.sip_ledger.proofs.Lemmas.{entries_of, IsLeastTo, length, ◌-◌}
use Rattle.sip_ledger.proofs.accounts.account.least_must.Given as goal

-- `least` is the least deadline of what the account must send before the place
abbrev pub invariant-loop-place : goal.invariant-loop-place
invariant-loop-place l = IsLeastTo l.gains l.strikes l.account l.from l.least

-- each turn of the loop goes to a later place, and the gains end
abbrev pub decreases-loop-place : goal.decreases-loop-place
decreases-loop-place l = length (entries_of l.gains) - l.from
