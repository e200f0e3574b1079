use Rattle.sip_machine.proofs.Words.{AreFirstOnes}
use Rattle.sip_machine.proofs.pool.Pool.first_of_few.Given as goal

-- the rows are those up to `at` whose state has no equal before it
abbrev pub invariant-loop-at : goal.invariant-loop-at
invariant-loop-at g l = AreFirstOnes l.self l.from l.at l.rows.items
