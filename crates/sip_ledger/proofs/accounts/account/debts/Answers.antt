use Rattle.sip_ledger.proofs.Lemmas.{told-more}
use Rattle.sip_ledger.proofs.accounts.account.debts.Goals as goal

-- after one place more, the list has the debts of the account up to it
pub loop-place-preserved : goal.loop-place-preserved
loop-place-preserved c = told-more c.requires.account c.loop-place.invariant c.loop-place-test.true c.next-place.ensures c.debt_for.ensures c.in_ok-push.ensures.items
