use Rattle.sip_ledger.proofs.Lemmas.{IsClearedTo}
use Rattle.sip_ledger.proofs.accounts.left.drop_front.Given as goal

-- no gain before the place is left
abbrev pub invariant-loop-place : goal.invariant-loop-place
invariant-loop-place l = IsClearedTo l.place l.strikes l.rows l.fn.gains l.gains
