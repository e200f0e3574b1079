use Rattle.sip_states.proofs.due.AgendaLemmas.{left}
use Rattle.sip_states.proofs.agenda.leave.Goals as goal

-- the line of the index is gone, and all others stay
pub returns-in-Some : goal.returns-in-Some
returns-in-Some c =
    left c.args.index c.in-Some.last c.args.limit c.args.order.now c.remove.new.self c.in-Some.is c.remove.ensures.updates.0
