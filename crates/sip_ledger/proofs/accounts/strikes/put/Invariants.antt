use Rattle.sip_ledger.proofs.Lemmas.{IsWritten}
use Rattle.sip_ledger.proofs.accounts.strikes.put.Given as goal

-- the gains before the place are struck too
abbrev pub invariant-loop-place : goal.invariant-loop-place
invariant-loop-place l = IsWritten l.gains l.from l.place l.fn.strikes.items l.strikes.items l.fn.account
