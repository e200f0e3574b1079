use Rattle.sip_ledger.proofs.Lemmas.{entries_of, IsExpiring, length, ◌-◌}
use Rattle.sip_ledger.proofs.accounts.account.expired.Given as goal

-- the account has lost what is past before the place
abbrev pub invariant-loop-place : goal.invariant-loop-place
invariant-loop-place l = IsExpiring l.gains l.fn.strikes.items l.strikes.items l.fn.account l.left l.moment l.place

-- each turn of the loop goes to a later place, and the gains end
abbrev pub decreases-loop-place : goal.decreases-loop-place
decreases-loop-place l = length (entries_of l.gains) - l.place
