use Rattle.sip_ledger.proofs.Lemmas.{account-at, arith, cases_lt, get_or_append_left, get_or_push, inl, length_push, nat_tests}
use Rattle.sip_ledger.proofs.accounts.Accounts.prints.Goals as goal

-- after one row more, the prints are those of what the rows up to it owe
pub loop-row-preserved : goal.loop-row-preserved
loop-row-preserved c =
    let was = c.loop-row.invariant in
    let is = account-at c.loop-row.row c.index-account.result.now c.self.invariant c.self.view_is (omega arith) c.index-account.ensures in (
      omega (arith, was.0),
      inl (omega arith),
      grind (arith, was.2, length_push),
      omega (arith, was.3, c.push_reserved.ensures.capacity),
      λ j below. grind (arith, nat_tests, cases_lt, was.2, was.4 j, get_or_append_left, get_or_push, is.1, c.front_print.ensures),
    )
