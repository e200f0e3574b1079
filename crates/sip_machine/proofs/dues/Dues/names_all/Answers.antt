use Rattle.sip_machine.proofs.debts.NamesLemmas.{none-appends}
use Rattle.sip_machine.proofs.dues.Dues.names_all.Goals as goal

-- where no row owes anything, nothing is named
pub returns-in-Blank-clause-ok : goal.returns-in-Blank-clause-ok
returns-in-Blank-clause-ok c =
    rw (← rw c.in-Blank.is at c.self.view_is) (none-appends c.in-Blank.field-0 c.args.numbers.now.items)
