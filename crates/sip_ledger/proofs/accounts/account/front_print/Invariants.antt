use Rattle.sip_ledger.proofs.Lemmas.{IsToldTo, List, length, order_print, ◌-◌, ◌≡◌, ◌≤◌}
use Rattle.sip_ledger.specs.declared.debt.Debt.{Debt}
use Rattle.sip_ledger.proofs.accounts.account.front_print.Given as goal

-- the print is that of what is owed before the place, which are as many as were counted; something is owed at the place
abbrev pub invariant-loop-place : goal.invariant-loop-place
invariant-loop-place l = (debts : List Debt) × IsToldTo l.gains l.strikes l.account l.place debts × (l.print ≡ order_print debts) × (length debts ≡ l.count) × (l.count ≤ l.most)

-- each turn of the loop goes to a later place, up to the end of the account
abbrev pub decreases-loop-place : goal.decreases-loop-place
decreases-loop-place l = l.account.end - l.place
