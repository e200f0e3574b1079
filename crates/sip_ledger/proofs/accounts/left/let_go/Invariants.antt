use Rattle.sip_ledger.proofs.Lemmas.{AreKept, ◌-◌}
use Rattle.sip_ledger.proofs.accounts.left.let_go.Given as goal

-- the gains that were let go are owed by no account
abbrev pub invariant-loop-place : goal.invariant-loop-place
invariant-loop-place l = AreKept l.strikes l.rows l.fn.gains l.gains

-- each turn of the loop goes to a later place, up to the end of the gains
abbrev pub decreases-loop-place : goal.decreases-loop-place
decreases-loop-place l = l.gains.end - l.from
