use Rattle.std.proofs.Common.{arith}
use Rattle.sip_machine.proofs.texts.RunLaws.{places-kept, places-inserted, always_err}
use Rattle.sip_machine.proofs.book.insert.Goals as goal

-- where memory was refused, the places are as before
pub returns-in_err-insert-clause-err : goal.returns-in_err-insert-clause-err
returns-in_err-insert-clause-err c = grind (arith, places-kept, always_err)

-- the place is the first of its run
pub returns-then-gap-eq0-clause-ok : goal.returns-then-gap-eq0-clause-ok
returns-then-gap-eq0-clause-ok c = grind (arith, places-inserted)

-- the place comes after the first of its run
pub returns-else-gap-eq0-clause-ok : goal.returns-else-gap-eq0-clause-ok
returns-else-gap-eq0-clause-ok c = grind (arith, places-inserted)
