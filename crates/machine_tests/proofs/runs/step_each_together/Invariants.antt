use Rattle.std.specs.Prelude.{All}
use Rattle.sip_machine.specs.Rules.{Knows}
use Rattle.machine_tests.proofs.runs.step_each_together.Given as goal

-- the book has what the states name, and all of them are in range
abbrev pub invariant-loop-moment : goal.invariant-loop-moment
invariant-loop-moment g l = All (Knows g.M.Machine.names l.book) l.pool × All g.M.Machine.in_range l.pool
