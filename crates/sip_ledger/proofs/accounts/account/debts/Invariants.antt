use Rattle.sip_ledger.proofs.Lemmas.{IsToldTo, ◌-◌}
use Rattle.sip_ledger.proofs.accounts.account.debts.Given as goal

-- what is owed before the place is told; something is owed at the place
abbrev pub invariant-loop-place : goal.invariant-loop-place
invariant-loop-place l = IsToldTo l.gains l.strikes l.account l.place l.debts.items

-- each turn of the loop goes to a later place, up to the end of the account
abbrev pub decreases-loop-place : goal.decreases-loop-place
decreases-loop-place l = l.account.end - l.place
