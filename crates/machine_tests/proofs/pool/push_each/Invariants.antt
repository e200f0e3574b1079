use Rattle.std.specs.Prelude.{All}
use Rattle.sip_machine.specs.Rules.{Knows}
use Rattle.machine_tests.proofs.pool.push_each.Given as goal

-- the book has what the states name, and all of them are in range
abbrev pub invariant-loop-messages : goal.invariant-loop-messages
invariant-loop-messages g l =
    record {
      known : All (Knows g.M.Machine.names l.book) l.pool;
      in_range : All g.M.Machine.in_range l.pool;
    }
