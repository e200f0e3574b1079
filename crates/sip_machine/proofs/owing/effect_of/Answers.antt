-- In the answers m is the machine by its figure and its phases, p its times and e the event as the definitions have it.
use Rattle.std.proofs.Common.{sym}
use Rattle.std.proofs.lemmas.Result.{IfOk-weaker}
use Rattle.sip_standard.specs.declared.action.Action.TheVariants.{Sent, Received, Failed, Restart}
use Rattle.sip_machine.specs.Limits.{IsWithin}
use Rattle.sip_machine.specs.Texts.{Keeps}
use Rattle.sip_machine.specs.Owes.{owed_in, owes_names}
use Rattle.sip_machine.specs.NumberedEvent.{event_in}
use Rattle.sip_machine.specs.FigureRules.{until_of}
use Rattle.sip_machine.specs.Owing.{owing_seen}
use Rattle.sip_machine.specs.inner.Turns.{state_in}
use Rattle.sip_phases.proofs.debts.DebtLaws.{All-front}
use Rattle.sip_machine.proofs.steps.OwingSteps.{taken}
use Rattle.sip_machine.proofs.owing.effect_of.Goals as goal

-- the book keeps what the phase names, since it keeps what the state names
pub restarts-requires : goal.restarts-requires
restarts-requires g c = All-front (Keeps c.args.book.now) (g.M.Phases.names c.args.phase.now) (owes_names (owed_in c.args.dues.now c.args.row)) c.requires.known

-- a state that can wait until the moment takes what it receives then
pub returns-in-Received-clause-gives : goal.returns-in-Received-clause-gives
returns-in-Received-clause-gives g c =
    let m = g.M.Phases in
    let p = m.times c.args.machine.now in
    let texts = c.args.book.now in
    let e = event_in texts c.args.event.now in
    let x = (state_in c.args.phase.now c.args.dues.now c.args.row) in
    -- the state can wait until the moment, so it takes what the row gives
    let within : IsWithin e.moment (until_of m.figure p (owing_seen m.seen texts x)) = rw (c.moment.ensures, c.until.ensures texts) at c.if-is_past.ensures in
    IfOk-weaker c.receives.result _ _
    (λ effect gives. taken m.figure p m.seen m.names m.in_range texts Received e x effect (sym c.in-Received.ensures) within gives)
    c.receives.ensures

-- a state that can wait until the moment takes what it sends then
pub returns-in-Sent-clause-gives : goal.returns-in-Sent-clause-gives
returns-in-Sent-clause-gives g c =
    let m = g.M.Phases in
    let p = m.times c.args.machine.now in
    let texts = c.args.book.now in
    let e = event_in texts c.args.event.now in
    let x = (state_in c.args.phase.now c.args.dues.now c.args.row) in
    -- the state can wait until the moment, so it takes what the send gives
    let within : IsWithin e.moment (until_of m.figure p (owing_seen m.seen texts x)) = rw (c.moment.ensures, c.until.ensures texts) at c.if-is_past.ensures in
    IfOk-weaker c.emits.result _ _
    (λ effect gives. taken m.figure p m.seen m.names m.in_range texts Sent e x effect (sym c.in-Sent.ensures) within gives)
    c.emits.ensures.gives

-- a state that can wait until the moment takes what its transport refuses then
pub returns-in-Failed-clause-gives : goal.returns-in-Failed-clause-gives
returns-in-Failed-clause-gives g c =
    let m = g.M.Phases in
    let p = m.times c.args.machine.now in
    let texts = c.args.book.now in
    let e = event_in texts c.args.event.now in
    let x = (state_in c.args.phase.now c.args.dues.now c.args.row) in
    -- the state can wait until the moment, so it takes what the refusal gives
    let within : IsWithin e.moment (until_of m.figure p (owing_seen m.seen texts x)) = rw (c.moment.ensures, c.until.ensures texts) at c.if-is_past.ensures in
    IfOk-weaker c.fails.result _ _
    (λ effect gives. taken m.figure p m.seen m.names m.in_range texts Failed e x effect (sym c.in-Failed.ensures) within gives)
    c.fails.ensures.gives

-- a state that can wait until the moment takes the restart then
pub returns-in-Restart-clause-gives : goal.returns-in-Restart-clause-gives
returns-in-Restart-clause-gives g c =
    let m = g.M.Phases in
    let p = m.times c.args.machine.now in
    let texts = c.args.book.now in
    let e = event_in texts c.args.event.now in
    -- x is the state of the row, and e the restart; the state lasts until the moment of e
    let x = (state_in c.args.phase.now c.args.dues.now c.args.row) in
    let within : IsWithin e.moment (until_of m.figure p (owing_seen m.seen texts x)) = rw (c.moment.ensures, c.until.ensures texts) at c.if-is_past.ensures in
    taken m.figure p m.seen m.names m.in_range texts Restart e x c.restarts.result (sym c.in-Restart.ensures) within (c.restarts.ensures e.moment x.owes)
