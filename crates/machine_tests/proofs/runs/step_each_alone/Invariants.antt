use Rattle.std.specs.Prelude.{◌≡◌, All, length}
use Rattle.sip_machine.specs.Rules.{Knows}
use Rattle.machine_tests.proofs.runs.step_each_alone.Given as goal

-- before each entry there is one state, it is in range, and the book has what it names
abbrev pub invariant-loop-moment : goal.invariant-loop-moment
invariant-loop-moment g l =
    record {
      alone : length l.pool ≡ 1;
      known : All (Knows g.M.Machine.names l.book) l.pool;
      in_range : All g.M.Machine.in_range l.pool;
    }
