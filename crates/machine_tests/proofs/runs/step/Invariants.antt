use Rattle.std.specs.Prelude.{◌≤◌, All, length}
use Rattle.sip_machine.specs.Rules.{Knows}
use Rattle.machine_tests.proofs.runs.step.Given as goal

-- the first `count` states are there, the book has what all states name, and all are in range
abbrev pub invariant-loop-at : goal.invariant-loop-at
invariant-loop-at g l =
    record {
      within : l.count ≤ length l.pool;
      known : All (Knows g.M.Machine.names l.book) l.pool;
      in_range : All g.M.Machine.in_range l.pool;
    }
