use Rattle.sip_ledger.proofs.Lemmas.{All-set, empty-account, IsAccount}
use Rattle.sip_ledger.proofs.accounts.Accounts.clear.Goals as goal

-- the rows are accounts, since the empty account is one
pub invariant_of-self : goal.invariant_of-self
invariant_of-self c =
    let s = c.self.inside in
    record { gained = c.self.invariant.gained; each = All-set (IsAccount s.gains s.strikes.items) s.rows.items c.args.row _ (empty-account s.gains s.strikes.items) c.self.invariant.each }
