use Rattle.std.proofs.Common.{◌≤◌, All}
use Rattle.sip_machine.specs.Rules.{Knows}
use Rattle.sip_machine.specs.Owing.{owing_names}
use Rattle.sip_phases.specs.inner.InviteServer.{invite_server_names}
use Rattle.states_tests.proofs.played.play.Given as goal

-- the set has not come past the last moment, and the book has what its states name
abbrev pub invariant-loop-entry : goal.invariant-loop-entry
invariant-loop-entry l = (l.set.moment ≤ l.last) × All (Knows (owing_names invite_server_names) l.book) l.set.states
