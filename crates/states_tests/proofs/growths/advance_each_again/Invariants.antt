use Rattle.std.proofs.Common.{◌≤◌}
use Rattle.states_tests.proofs.growths.advance_each_again.Given as goal

-- neither set has come past the last moment
abbrev pub invariant-loop-moment : goal.invariant-loop-moment
invariant-loop-moment g l = (l.set.moment ≤ l.last) × (l.twin.moment ≤ l.last)
