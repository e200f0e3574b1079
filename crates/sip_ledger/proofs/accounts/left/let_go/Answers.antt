use Rattle.sip_ledger.proofs.Lemmas.{kept-less}
use Rattle.sip_ledger.proofs.accounts.left.let_go.Goals as goal

-- one gain more has gone that no account owes
pub loop-place-preserved : goal.loop-place-preserved
loop-place-preserved c = kept-less c.loop-place.invariant c.let_go.ensures c.if-is_owed.ensures
