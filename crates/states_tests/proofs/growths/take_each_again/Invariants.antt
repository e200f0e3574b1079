use Rattle.std.proofs.Common.{◌≤◌, All}
use Rattle.sip_machine.specs.Rules.{Knows}
use Rattle.sip_machine.specs.Owing.{owing_names}
use Rattle.sip_phases.specs.inner.InviteServer.{invite_server_names}
use Rattle.states_tests.proofs.growths.take_each_again.Given as goal

-- neither set has come past the last moment, and the book has what their states name
abbrev pub invariant-loop-entry : goal.invariant-loop-entry
invariant-loop-entry g l =
    (l.set.moment ≤ l.last) × (l.twin.moment ≤ l.last)
    × All (Knows (owing_names invite_server_names) l.book) l.set.states × All (Knows (owing_names invite_server_names) l.book) l.twin.states
