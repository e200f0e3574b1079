use Rattle.std.proofs.Common.{◌≡◌, ◌≤◌, arith, length}
use Rattle.std.proofs.lemmas.Bool.{OnTrue_at}
use Rattle.sip_machine.specs.NumberedEvent.{event_in}
use Rattle.sip_standard.specs.VerdictOf.{widest}
use Rattle.sip_states.proofs.sets.Following.{Follows}
use Rattle.sip_states.proofs.sets.Taking.{took_kept}
use Rattle.sip_states.proofs.state_set.StateSet.take_alone.Goals as goal

-- the book has what the states of the set name
pub step_alone-requires-clause-known : goal.step_alone-requires-clause-known
step_alone-requires-clause-known g c = rw (← c.self.view_is) at c.requires.known

-- after its one state has taken the event, the set keeps its invariant: it has one state again
pub invariant_of-self-then-stepped : goal.invariant_of-self-then-stepped
invariant_of-self-then-stepped g c =
    let m = c.self.inside.machine in
    let new = c.step_alone.new.pool in
    -- the states follow the rules of the machine, and there is one of them
    let follows : Follows g.M.Machine.names g.M.Machine.seen (g.M.Machine.rules m) (g.M.Machine.ended m) (g.M.Machine.end_window m) (g.M.Machine.until m) =
    record { lawful = g.met.M.Machine.lawful m; ended_is = g.met.M.Machine.ended_stands m; ended_names = (g.met.M.Machine.ended_fits m).0; window_is = g.met.M.Machine.window_stands m; until_is = g.met.M.Machine.until_stands m; apart = g.met.M.Machine.apart } in
    let one : length new ≡ 1 = OnTrue_at c.if-stepped.true c.in_ok-stepped.ensures.alone in
    let few : length new ≤ widest = omega (arith, one) in
    rw (c.within-self-inside.ensures, c.moment.ensures)
    (took_kept g.M.Machine.names g.M.Machine.in_range g.M.Machine.seen g.M.Machine.rules g.M.Machine.ended g.M.Machine.end_window g.M.Machine.until m follows c.args.book.now _ (event_in c.args.book.now c.args.event.now) new
    (OnTrue_at c.if-stepped.true c.in_ok-stepped.ensures.gives) (λ i j d less high. absurd (omega (arith, less, high, one))) few)

-- the one state was led to one state
pub returns-then-stepped-clause-states : goal.returns-then-stepped-clause-states
returns-then-stepped-clause-states g c = rw (← c.self.view_is) (rw c.get.ensures at c.in_ok-stepped.ensures.gives)
