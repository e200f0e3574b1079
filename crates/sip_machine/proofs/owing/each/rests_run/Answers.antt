-- In the answers m is the machine by its figure and its phases, p its times and e the event as the definitions have it.
-- In them xs are the states of the pool, and `some` those of the run.
use Rattle.std.specs.Prelude.{◌≡◌, ◌<◌, ◌&&◌, ◌++◌, [], filter, map}
use Rattle.std.specs.List.{list_any}
use Rattle.std.proofs.Common.{sym, ◌∙◌, subst, arith, append-nil, true≢false}
use Rattle.std.proofs.lemmas.Result.{on_ok_weaker}
use Rattle.sip_ledger.specs.Debts.{is_payable, is_timely}
use Rattle.sip_ledger.specs.Lists.{from_to}
use Rattle.sip_machine.specs.NumberedEvent.{event_in}
use Rattle.sip_machine.specs.Owing.{owing_seen}
use Rattle.sip_machine.specs.inner.Effects.{Rests, repaid_at, unexpired_at}
use Rattle.sip_machine.proofs.pools.PoolLemmas.{in-phases}
use Rattle.sip_machine.proofs.steps.OwingEachLemmas.{closed-none, in-run, rests-paid}
use Rattle.sip_machine.proofs.owing.each.rests_run.Goals as goal

-- the run begins at an index of the phases
pub index-requires : goal.index-requires
index-requires g c =
    subst (λ n. c.args.from < n) (sym c.pool.inside.phases.ok.0)
    (in-phases c.pool.inside.phases.items c.pool.inside.dues c.args.pool.now c.args.from c.pool.view_is (omega (arith, c.requires.from, c.requires.to)))

-- the phase of the run is in range
pub closes-requires : goal.closes-requires
closes-requires g c =
    let m = g.M.Phases in
    (in-run m.names m.in_range c.args.book.now c.pool.inside.phases.items c.pool.inside.dues c.args.pool.now c.args.from c.args.to c.index.result.now c.pool.view_is c.index.ensures
    c.requires.from c.requires.to c.requires.known c.requires.in_range c.requires.same).in_range

-- the book keeps what the phase of the run names
pub pays-requires-clause-known : goal.pays-requires-clause-known
pays-requires-clause-known g c =
    let m = g.M.Phases in
    (in-run m.names m.in_range c.args.book.now c.pool.inside.phases.items c.pool.inside.dues c.args.pool.now c.args.from c.args.to c.index.result.now c.pool.view_is c.index.ensures
    c.requires.from c.requires.to c.requires.known c.requires.in_range c.requires.same).known

-- where the phase has closed before the moment, no state is left, and the pool is as before
pub returns-then-is_past-clause-gives : goal.returns-then-is_past-clause-gives
returns-then-is_past-clause-gives g c =
    let m = g.M.Phases in
    let texts = c.args.book.now in
    let e = event_in texts c.args.event.now in
    let xs = c.args.pool.now in
    let some = from_to c.args.from c.args.to xs in
    let p = m.times c.args.machine.now in
    -- the states of the run have one phase, which has closed before the moment
    let run = in-run m.names m.in_range c.args.book.now c.pool.inside.phases.items c.pool.inside.dues c.args.pool.now c.args.from c.args.to c.index.result.now c.pool.view_is c.index.ensures
    c.requires.from c.requires.to c.requires.known c.requires.in_range c.requires.same in
    let closed = rw (c.moment.ensures, c.closes.ensures texts) at c.if-is_past.ensures in (
      [],
      sym (append-nil xs),
      closed-none m.figure p m.seen m.names m.in_range texts e c.index.result.now some run.same c.requires.known c.requires.in_range
          (λ x. Rests m.figure e (owing_seen m.seen texts (unexpired_at e.moment x))) closed,
    )

-- each state that can pay the message and is in time is pushed with that debt paid
pub returns-in-Some-clause-gives : goal.returns-in-Some-clause-gives
returns-in-Some-clause-gives g c =
    -- m is the machine, p its times and e the event; xs are the states of the pool and `some` those of the run, whose phase is q
    let m = g.M.Phases in
    let texts = c.args.book.now in
    let e = event_in texts c.args.event.now in
    let xs = c.args.pool.now in
    let some = from_to c.args.from c.args.to xs in
    let q = c.index.result.now in
    let p = m.times c.args.machine.now in
    -- the states of the run have one phase, which does not stay by itself
    let run = in-run m.names m.in_range c.args.book.now c.pool.inside.phases.items c.pool.inside.dues c.args.pool.now c.args.from c.args.to c.index.result.now c.pool.view_is c.index.ensures
    c.requires.from c.requires.to c.requires.known c.requires.in_range c.requires.same in
    let timers = rw (c.moment.ensures, c.closes.ensures texts) at c.if-is_past.ensures in
    let stays = rw c.kind.ensures at c.stays.ensures texts in
    let moves : ¬ (m.figure.Stays (m.seen texts q) e.kind) = λ holds. true≢false (sym (stays.1 holds) ∙ c.if-stays.false) in
    -- the states that can pay the message have paid it, and stand for what is left without a row
    let message = c.in-Some.message in
    let paid = map (repaid_at e.moment message) (filter (λ x. list_any (is_payable message e.moment) x.owes && is_timely e.moment x.owes) some) in
    let covers = rests-paid m.figure p m.seen m.names m.in_range texts e q some run.same c.requires.known c.requires.in_range message timers moves (rw c.in-Some.is at c.pays.ensures) in
    on_ok_weaker c.push_paid_each.result (λ (is : c.push_paid_each.new.self ≡ xs ++ paid). (paid, is, covers))
    (rw c.moment-in-Some.ensures at c.push_paid_each.ensures.ok)
