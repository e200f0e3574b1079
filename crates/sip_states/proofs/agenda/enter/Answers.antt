use Rattle.sip_states.proofs.due.AgendaLemmas.{entered}
use Rattle.sip_states.proofs.agenda.enter.Goals as goal

-- the line of the index has come in, and all others stay
pub returns-in_ok-insert-clause-ok : goal.returns-in_ok-insert-clause-ok
returns-in_ok-insert-clause-ok c =
    entered c.args.index c.in-Some.last c.args.limit c.args.order.now c.insert.new.self c.in-Some.is c.in_ok-insert.ensures.updates.0
