use Rattle.sip_ledger.proofs.Lemmas.{entries_of, IsSeek, IsSoughtTo, length, ◌-◌}
use Rattle.sip_ledger.proofs.accounts.account.find.Given as goal

-- the search has come to the place `from`, and what `seek` knows is right
abbrev pub invariant-loop-place : goal.invariant-loop-place
invariant-loop-place l = IsSoughtTo l.gains l.strikes l.account l.message l.moment l.from × IsSeek l.gains l.message l.seek

-- each turn of the loop goes to a later place, and the gains end
abbrev pub decreases-loop-place : goal.decreases-loop-place
decreases-loop-place l = length (entries_of l.gains) - l.from
