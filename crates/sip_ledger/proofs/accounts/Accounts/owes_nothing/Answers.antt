use Rattle.sip_ledger.proofs.Lemmas.{account-at, owed_in, owes-nothing}
use Rattle.sip_ledger.proofs.accounts.Accounts.owes_nothing.Goals as goal

-- an account owes nothing exactly where it has no debts
pub returns : goal.returns
returns c =
    let s = c.self.inside in
    let is = account-at c.args.row c.index-account.result.now c.self.invariant c.self.view_is c.requires c.index-account.ensures in
    owes-nothing s.gains s.strikes.items c.index-account.result.now (owed_in c.args.self.now c.args.row) is.0 is.1
