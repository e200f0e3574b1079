use Rattle.std.proofs.Common.{◌≤◌}
use Rattle.states_tests.proofs.rows.are_left.Given as goal

-- the set has not come past the last moment
abbrev pub invariant-loop-moment : goal.invariant-loop-moment
invariant-loop-moment g l = l.set.moment ≤ l.last
