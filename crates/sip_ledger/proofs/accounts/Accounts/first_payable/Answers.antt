use Rattle.sip_ledger.proofs.Lemmas.{account-at, arith, first-account, left-kept, none-account, numbers_of, owed-left}
use Rattle.sip_ledger.proofs.accounts.Accounts.first_payable.Goals as goal
use Rattle.sip_ledger.proofs.accounts.Accounts.first_payable.Goals.{in-Some, in-None}

-- what an account owes is kept
pub entry-requires-clause-kept : goal.entry-requires-clause-kept
entry-requires-clause-kept c = grind (arith, left-kept, owed-left)

-- the debt of the row that was found is the first that a send of one of the messages pays; where the account has none, neither has the row
pub returns-clause-first : goal.returns-clause-first
returns-clause-first c =
    let s = c.self.inside in
    let a = c.index-account.result.now in
    let is = account-at c.args.row a c.self.invariant c.self.view_is c.requires c.index-account.ensures in
    let test = numbers_of c.args.messages.now in
    elim c.match-found.branch [
      | in-Some w ↦
          let found = rw (w.in-Some.is, c.deref.ensures.value) at c.in_ok-found.ensures.first in
          rw (w.result-is, w.entry.ensures, c.find_some.ensures.same, ← is.1) (first-account s.gains s.strikes.items a test c.args.moment w.in-Some.place is.0 found)
      | in-None w ↦
          let none = rw (w.in-None.is, c.deref.ensures.value) at c.in_ok-found.ensures.first in
          rw (w.result-is, ← is.1) (none-account s.gains s.strikes.items a test c.args.moment none)
    ]
