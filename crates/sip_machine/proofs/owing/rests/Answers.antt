-- In the answers m is the machine by its figure and its phases.
use Rattle.std.proofs.Common.{sym, true≢false, ◌∙◌}
use Rattle.sip_machine.specs.Texts.{Keeps}
use Rattle.sip_machine.specs.NumberedEvent.{event_in}
use Rattle.sip_machine.specs.Owes.{owed_in, owes_names}
use Rattle.sip_phases.proofs.debts.DebtLaws.{All-front, All-back}
use Rattle.sip_machine.proofs.steps.OwingSteps.{rested-stays, rested-pays}
use Rattle.sip_machine.specs.inner.Turns.{state_in}
use Rattle.sip_machine.proofs.owing.rests.Goals as goal

-- the book keeps what the phase names, since it keeps what the state names
pub paid-requires-clause-known : goal.paid-requires-clause-known
paid-requires-clause-known g c =
    All-front (Keeps c.args.book.now) (g.M.Phases.names c.args.phase.now) (owes_names (owed_in c.args.dues.now c.args.row)) c.requires.known

-- the book keeps what the row owes, since it keeps what the state names
pub paid-requires-clause-owed : goal.paid-requires-clause-owed
paid-requires-clause-owed g c =
    All-back (Keeps c.args.book.now) (g.M.Phases.names c.args.phase.now) (owes_names (owed_in c.args.dues.now c.args.row)) c.requires.known

-- where the phase may stay by itself, the state is as it was, without what has expired
pub returns-then-stays-clause-gives : goal.returns-then-stays-clause-gives
returns-then-stays-clause-gives g c =
    let m = g.M.Phases in
    let texts = c.args.book.now in
    let stays = rw c.kind.ensures at c.stays.ensures texts in
    rested-stays m.figure (m.times c.args.machine.now) m.seen m.names m.in_range texts g.met.M.Phases.lawful (event_in texts c.args.event.now) (state_in c.args.phase.now c.args.dues.now c.args.row)
    (stays.0 c.if-stays.true) c.requires.known c.requires.in_range

-- where the phase does not stay by itself, a sent message leaves the state there only by paying a debt
pub returns-clause-gives : goal.returns-clause-gives
returns-clause-gives g c =
    let m = g.M.Phases in
    let texts = c.args.book.now in
    -- the answer of `stays` is whether the phase stays by itself, and it is false here
    let stays = rw c.kind.ensures at c.stays.ensures texts in
    rw c.paying.ensures
    (rested-pays m.figure (m.times c.args.machine.now) m.seen m.names m.in_range texts (event_in texts c.args.event.now) (state_in c.args.phase.now c.args.dues.now c.args.row)
    (λ holds. true≢false (sym (stays.1 holds) ∙ c.if-stays.false)) c.in_ok-paid.paid c.in_ok-paid.ensures.finds c.requires.known c.requires.in_range)
