use Rattle.sip_ledger.proofs.Lemmas.{account-at, arith, changed, entries_long, softened-account, take-length}
use Rattle.sip_ledger.proofs.accounts.Accounts.soften.Goals as goal

-- the rows are accounts, since the softened one is one
pub invariant_of-self : goal.invariant_of-self
invariant_of-self c =
    let s = c.self.inside in
    let is = account-at c.args.row _ c.self.invariant c.self.view_is c.requires c.index.ensures in
    let long = entries_long s.gains c.self.invariant.gained.long in
    let soft = softened-account s.gains s.strikes.items c.index.result.now s.gains.end (omega (arith, long)) (omega (arith, long, is.0.end)) is.0 in
    (changed _ c.args.row _ (take-length s.strikes.items) c.self.invariant soft.0).0

-- the row has the same debts, of which none must be sent any more
pub returns : goal.returns
returns c =
    let s = c.self.inside in
    let is = account-at c.args.row _ c.self.invariant c.self.view_is c.requires c.index.ensures in
    let long = entries_long s.gains c.self.invariant.gained.long in
    let soft = softened-account s.gains s.strikes.items c.index.result.now s.gains.end (omega (arith, long)) (omega (arith, long, is.0.end)) is.0 in
    let all = changed _ c.args.row _ (take-length s.strikes.items) c.self.invariant soft.0 in
    grind (arith, all, soft, is)
