use Rattle.sip_machine.specs.Owing.{owing_seen, owing_names, OwingInRange}
use Rattle.sip_phases.specs.inner.InviteServer.{invite_server_names, invite_server_seen, InviteServerInRange}
use Rattle.states_tests.proofs.Known.{known-after, moment-after}
use Rattle.states_tests.proofs.played.take.Goals as goal

-- the book has what the new states name, whatever `take` has answered (`known-after`)
pub returns-clause-known : goal.returns-clause-known
returns-clause-known c =
    known-after (owing_names invite_server_names) (OwingInRange InviteServerInRange) (owing_seen invite_server_seen) c.args.book.now _ c.args.set.now c.take.new.self c.take.result
    c.take.ensures.states c.take.ensures.err c.requires.known

-- the set has come to the moment of the entry, which is that of its event, or is as it was (`moment-after`)
pub returns-clause-order : goal.returns-clause-order
returns-clause-order c =
    moment-after c.args.entry.0 c.args.set.now c.take.new.self c.take.result (rw c.in_ok-event.ensures.0 at c.take.ensures.at) c.take.ensures.err c.requires.order
