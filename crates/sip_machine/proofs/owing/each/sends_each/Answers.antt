-- In the answers m is the machine by its figure and its phases, and e the event as the definitions have it.
use Rattle.std.specs.Prelude.{◌≡◌, take}
use Rattle.std.proofs.Common.{subst, arith}
use Rattle.sip_machine.specs.NumberedEvent.{event_in}
use Rattle.sip_machine.specs.Owing.{owing_seen, owing_names, OwingInRange, CodeOwing}
use Rattle.sip_machine.specs.Rules.{Knows}
use Rattle.sip_machine.specs.FigureRules.{TakeOf}
use Rattle.sip_machine.proofs.pools.CoversLemmas.{HasFound, found-none, found-run, slice-kept, before-more}
use Rattle.sip_machine.proofs.owing.each.sends_each.Goals as goal

-- before the loop no state was asked, and nothing was found
pub loop-at-init : goal.loop-at-init
loop-at-init g c =
    let m = g.M.Phases in
    let texts = c.args.book.now in
    let e = event_in texts c.args.event.now in
    (omega arith, found-none (owing_names m.names) (OwingInRange m.in_range) (owing_seen m.seen) texts (λ x. TakeOf m.figure (m.times c.args.machine.now) (owing_seen m.seen texts x) e) c.args.pool.now)

-- the book has all that the states of the next run name, since they are old ones
pub sends_run-requires-clause-known : goal.sends_run-requires-clause-known
sends_run-requires-clause-known g c =
    let (at_le, (found, is, covers)) = c.loop-at.invariant in
    slice-kept (Knows (owing_names g.M.Phases.names) c.args.book.now) c.loop-at.at c.run_end-end.result c.args.count c.args.pool.now found c.loop-at.pool is c.run_end-end.ensures.order.1 c.requires.count c.requires.known

-- the moments of the states of the run are in range
pub sends_run-requires-clause-in_range : goal.sends_run-requires-clause-in_range
sends_run-requires-clause-in_range g c =
    let (at_le, (found, is, covers)) = c.loop-at.invariant in
    slice-kept (OwingInRange g.M.Phases.in_range) c.loop-at.at c.run_end-end.result c.args.count c.args.pool.now found c.loop-at.pool is c.run_end-end.ensures.order.1 c.requires.count c.requires.in_range

-- where memory is refused, the old states are as they were
pub returns-in_err-sends_run-clause-before : goal.returns-in_err-sends_run-clause-before
returns-in_err-sends_run-clause-before g c =
    let (at_le, (found, is, covers)) = c.loop-at.invariant in
    before-more c.args.pool.now c.loop-at.pool c.sends_run.new.pool found is c.sends_run.ensures.before

-- after one more run of states of one phase, what the states up to its end take is found
pub loop-at-preserved : goal.loop-at-preserved
loop-at-preserved g c =
    let m = g.M.Phases in
    let texts = c.args.book.now in
    let e = event_in texts c.args.event.now in
    -- P says of a state what it takes of the event; `Denot` is the type of the phases as clauses see them
    let P = λ (x : CodeOwing g.row.M-Phase.Denot). TakeOf m.figure (m.times c.args.machine.now) (owing_seen m.seen texts x) e in
    -- what was found before the run, and what the run takes, is found of all up to its end
    let (at_le, has) = c.loop-at.invariant in
    let order = c.run_end-end.ensures.order in
    let le = c.requires.count in (
      order.1,
      found-run (owing_names m.names) (OwingInRange m.in_range) (owing_seen m.seen) texts P c.loop-at.at c.run_end-end.result c.args.pool.now c.loop-at.pool c.sends_run.new.pool order.0
          (omega (arith, order.1, le)) has c.in_ok-sends_run.ensures.gives,
    )

-- at the end of the loop all states that were to be asked have been asked
pub returns-clause-gives : goal.returns-clause-gives
returns-clause-gives g c =
    let m = g.M.Phases in
    let texts = c.args.book.now in
    let e = event_in texts c.args.event.now in
    let (at_le, has) = c.loop-at.invariant in
    -- the loop has asked as many states as it was to ask
    let all : c.loop-at.at ≡ c.args.count = omega (arith, at_le, c.loop-at-test.false) in
    subst (λ n. HasFound (owing_names m.names) (OwingInRange m.in_range) (owing_seen m.seen) texts (λ x. TakeOf m.figure (m.times c.args.machine.now) (owing_seen m.seen texts x) e)
    (take n c.args.pool.now) c.args.pool.now c.loop-at.pool) all has
