use Rattle.sip_ledger.proofs.Lemmas.{entries_of, length, ◌-◌}
use Rattle.sip_ledger.proofs.accounts.account.shared_place.Given as goal

-- each turn of the loop goes to a later place, and the gains end
abbrev pub decreases-loop-place : goal.decreases-loop-place
decreases-loop-place l = length (entries_of l.gains) - l.from
