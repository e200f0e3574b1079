use Rattle.sip_ledger.proofs.Lemmas.{changed, unchanged}
use Rattle.sip_ledger.proofs.accounts.Accounts.pay_and_expire.Goals as goal

-- where memory was refused, the rows are accounts as before
pub invariant_of-self : goal.invariant_of-self
invariant_of-self c = (unchanged _ c.paid_and_expired.ensures.kept c.self.invariant).0

-- the changed rows are accounts
pub invariant_of-self-2 : goal.invariant_of-self-2
invariant_of-self-2 c = (changed _ c.args.row _ c.paid_and_expired.ensures.kept c.self.invariant c.in_ok-self-inside.ensures.account).0
