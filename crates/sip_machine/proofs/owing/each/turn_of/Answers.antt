-- In the answers m is the machine by its figure and its phases.
use Rattle.std.proofs.lemmas.Result.{IfOk-weaker}
use Rattle.sip_machine.specs.NumberedEvent.{event_in}
use Rattle.sip_machine.proofs.steps.OwingEachLemmas.{leads-received, leads-sent}
use Rattle.sip_machine.proofs.owing.each.turn_of.Goals as goal

-- for a received message the turn is that of the machine's row for what it receives
pub returns-in_ok-turn-in-Received : goal.returns-in_ok-turn-in-Received
returns-in_ok-turn-in-Received g c = λ owes known fits.
    -- the turn of a message without a row leaves the phase as it is
    let m = g.M.Phases in
    let texts = c.args.book.now in
    rw c.unwrap_or.ensures
    (leads-received m.figure (m.times c.args.machine.now) m.seen m.names m.in_range texts c.args.event.now.action (event_in texts c.args.event.now)
    (record { phase = c.args.phase.now; owes = owes }) c.in_ok-turn-in-Received.turn c.in-Received.ensures c.in_ok-turn-in-Received.ensures known fits
    (rw (c.params.ensures, c.moment.ensures) at c.due_within_limits.ensures))

-- for a sent message the turn is that of the machine's row for what it sends
pub returns-in-Sent : goal.returns-in-Sent
returns-in-Sent g c =
    -- the turn answers the row of what is sent, from each state of this phase
    let m = g.M.Phases in
    let texts = c.args.book.now in
    IfOk-weaker c.sends.result _ _
    (λ turn one. λ owes known fits.
    leads-sent m.figure (m.times c.args.machine.now) m.seen m.names m.in_range texts c.args.event.now.action (event_in texts c.args.event.now)
    (record { phase = c.args.phase.now; owes = owes }) turn c.in-Sent.ensures one known fits (rw (c.params.ensures, c.moment.ensures) at c.due_within_limits.ensures))
    c.sends.ensures
