-- In the answers m is the machine by its figure and its phases, p its times and e the event as the definitions have it.
-- In them xs are the states of the pool, and `some` those of the run.
use Rattle.std.specs.Prelude.{◌≡◌, ◌<◌, ◌++◌, [], filter, map}
use Rattle.std.proofs.Common.{sym, subst, arith, append-nil}
use Rattle.std.proofs.lemmas.Result.{on_ok_weaker}
use Rattle.sip_ledger.specs.Debts.{is_timely}
use Rattle.sip_ledger.specs.Lists.{from_to}
use Rattle.sip_machine.specs.NumberedEvent.{event_in}
use Rattle.sip_machine.specs.Owing.{owing_seen}
use Rattle.sip_machine.specs.inner.Effects.{Leads, led_by, unexpired_at}
use Rattle.sip_machine.proofs.pools.PoolLemmas.{in-phases}
use Rattle.sip_machine.proofs.steps.OwingEachLemmas.{closed-none, in-run, leads-none, leads-some}
use Rattle.sip_machine.proofs.owing.each.leads_run.Goals as goal

-- the run begins at an index of the phases
pub index-requires : goal.index-requires
index-requires g c =
    subst (λ n. c.args.from < n) (sym c.pool.inside.phases.ok.0)
    (in-phases c.pool.inside.phases.items c.pool.inside.dues c.args.pool.now c.args.from c.pool.view_is (omega (arith, c.requires.from, c.requires.to)))

-- the phase of the run is in range
pub closes-requires : goal.closes-requires
closes-requires g c =
    let m = g.M.Phases in
    (in-run m.names m.in_range c.args.book.now c.pool.inside.phases.items c.pool.inside.dues c.args.pool.now c.args.from c.args.to c.index.result.now c.pool.view_is c.index.ensures
    c.requires.from c.requires.to c.requires.known c.requires.in_range c.requires.same).in_range

-- the book has all that the phase of the run names
pub turn_of-requires-clause-known : goal.turn_of-requires-clause-known
turn_of-requires-clause-known g c =
    let m = g.M.Phases in
    (in-run m.names m.in_range c.args.book.now c.pool.inside.phases.items c.pool.inside.dues c.args.pool.now c.args.from c.args.to c.index.result.now c.pool.view_is c.index.ensures
    c.requires.from c.requires.to c.requires.known c.requires.in_range c.requires.same).known

-- the moments of the phase of the run are in range
pub turn_of-requires-clause-in_range : goal.turn_of-requires-clause-in_range
turn_of-requires-clause-in_range g c =
    let m = g.M.Phases in
    (in-run m.names m.in_range c.args.book.now c.pool.inside.phases.items c.pool.inside.dues c.args.pool.now c.args.from c.args.to c.index.result.now c.pool.view_is c.index.ensures
    c.requires.from c.requires.to c.requires.known c.requires.in_range c.requires.same).in_range

-- where the phase has closed before the moment, no row leads on, and the pool is as before
pub returns-then-is_past-clause-gives : goal.returns-then-is_past-clause-gives
returns-then-is_past-clause-gives g c =
    let m = g.M.Phases in
    let texts = c.args.book.now in
    let e = event_in texts c.args.event.now in
    let xs = c.args.pool.now in
    let some = from_to c.args.from c.args.to xs in
    let p = m.times c.args.machine.now in
    -- the states of the run have one phase, which has closed before the moment
    let run = in-run m.names m.in_range c.args.book.now c.pool.inside.phases.items c.pool.inside.dues c.args.pool.now c.args.from c.args.to c.index.result.now c.pool.view_is c.index.ensures
    c.requires.from c.requires.to c.requires.known c.requires.in_range c.requires.same in
    let closed = rw (c.moment.ensures, c.closes.ensures texts) at c.if-is_past.ensures in (
      [],
      sym (append-nil xs),
      closed-none m.figure p m.seen m.names m.in_range texts e c.index.result.now some run.same c.requires.known c.requires.in_range
          (λ x. Leads m.figure p e.action e (owing_seen m.seen texts (unexpired_at e.moment x))) closed,
    )

-- where the phase has no row for the event, no state is led on
pub returns-in-None-clause-gives : goal.returns-in-None-clause-gives
returns-in-None-clause-gives g c =
    let m = g.M.Phases in
    let texts = c.args.book.now in
    let e = event_in texts c.args.event.now in
    let xs = c.args.pool.now in
    let some = from_to c.args.from c.args.to xs in
    let p = m.times c.args.machine.now in
    -- the states of the run have one phase, which has no row
    let run = in-run m.names m.in_range c.args.book.now c.pool.inside.phases.items c.pool.inside.dues c.args.pool.now c.args.from c.args.to c.index.result.now c.pool.view_is c.index.ensures
    c.requires.from c.requires.to c.requires.known c.requires.in_range c.requires.same in
    ([], sym (append-nil xs), leads-none m.figure p m.seen m.names m.in_range texts e c.index.result.now some run.same c.requires.known c.requires.in_range (rw c.in-None.is at c.in_ok-turn.ensures))

-- where a row of the phase takes the event, each state whose debts are in time is pushed as the row leads it
pub returns-in-Some-clause-gives : goal.returns-in-Some-clause-gives
returns-in-Some-clause-gives g c =
    -- m is the machine, p its times and e the event; xs are the states of the pool and `some` those of the run, whose phase is q
    let m = g.M.Phases in
    let texts = c.args.book.now in
    let e = event_in texts c.args.event.now in
    let xs = c.args.pool.now in
    let some = from_to c.args.from c.args.to xs in
    let q = c.index.result.now in
    let p = m.times c.args.machine.now in
    -- the states of the run have one phase, whose timers are not past
    let run = in-run m.names m.in_range c.args.book.now c.pool.inside.phases.items c.pool.inside.dues c.args.pool.now c.args.from c.args.to c.index.result.now c.pool.view_is c.index.ensures
    c.requires.from c.requires.to c.requires.known c.requires.in_range c.requires.same in
    let timers = rw (c.moment.ensures, c.closes.ensures texts) at c.if-is_past.ensures in
    -- the states that are in time are led, and stand for what the row leads to
    let led = map (led_by p e.moment c.in-Some.turn) (filter (λ x. is_timely e.moment x.owes) some) in
    let covers = leads-some m.figure p m.seen m.names m.in_range texts e q some run.same c.requires.known c.requires.in_range c.in-Some.turn timers (rw c.in-Some.is at c.in_ok-turn.ensures) in
    on_ok_weaker c.push_led_each.result (λ (is : c.push_led_each.new.self ≡ xs ++ led). (led, is, covers))
    (rw (c.params.ensures, c.moment-in-Some.ensures) at c.push_led_each.ensures.ok)
