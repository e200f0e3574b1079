use Rattle.sip_machine.specs.Owing.{owing_seen, owing_names, OwingInRange}
use Rattle.sip_phases.specs.inner.PlainClient.{plain_client_names, plain_client_seen, PlainClientInRange}
use Rattle.states_tests.proofs.Known.{known-after}
use Rattle.states_tests.proofs.sets.take.Goals as goal

-- the book has what the new states name, whatever `take` has answered (`known-after`)
pub returns-clause-known : goal.returns-clause-known
returns-clause-known c =
    known-after (owing_names plain_client_names) (OwingInRange PlainClientInRange) (owing_seen plain_client_seen) c.args.book.now _ c.args.set.now c.take.new.self c.take.result
    c.take.ensures.states c.take.ensures.err c.requires.known
