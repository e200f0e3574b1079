-- In the answers m is the machine by its figure and its phases, and e the event as the definitions have it.
use Rattle.std.proofs.Common.{arith}
use Rattle.sip_machine.specs.NumberedEvent.{event_in}
use Rattle.sip_machine.specs.Owing.{owing_seen, owing_names, OwingInRange}
use Rattle.sip_machine.specs.Rules.{Knows}
use Rattle.sip_machine.specs.inner.Effects.{LeadsFrom}
use Rattle.sip_machine.proofs.pools.CoversLemmas.{found-none, found-run, slice-kept, before-more}
use Rattle.sip_machine.proofs.owing.each.leads_each.Goals as goal

-- before the loop no state was asked, and nothing was found
pub loop-at-init : goal.loop-at-init
loop-at-init g c =
    let m = g.M.Phases in
    let texts = c.args.book.now in
    let e = event_in texts c.args.event.now in
    (omega arith, found-none (owing_names m.names) (OwingInRange m.in_range) (owing_seen m.seen) texts (LeadsFrom m.figure (m.times c.args.machine.now) m.seen texts e) c.args.pool.now)

-- the book has all that the states of the next run name, since they are old ones
pub leads_run-requires-clause-known : goal.leads_run-requires-clause-known
leads_run-requires-clause-known g c =
    let (at_le, (found, is, covers)) = c.loop-at.invariant in
    slice-kept (Knows (owing_names g.M.Phases.names) c.args.book.now) c.loop-at.at c.run_end-end.result c.args.count c.args.pool.now found c.loop-at.pool is c.run_end-end.ensures.order.1 c.requires.count c.requires.known

-- the moments of the states of the run are in range
pub leads_run-requires-clause-in_range : goal.leads_run-requires-clause-in_range
leads_run-requires-clause-in_range g c =
    let (at_le, (found, is, covers)) = c.loop-at.invariant in
    slice-kept (OwingInRange g.M.Phases.in_range) c.loop-at.at c.run_end-end.result c.args.count c.args.pool.now found c.loop-at.pool is c.run_end-end.ensures.order.1 c.requires.count c.requires.in_range

-- where memory is refused, the old states are as they were
pub returns-in_err-leads_run-clause-before : goal.returns-in_err-leads_run-clause-before
returns-in_err-leads_run-clause-before g c =
    let (at_le, (found, is, covers)) = c.loop-at.invariant in
    before-more c.args.pool.now c.loop-at.pool c.leads_run.new.pool found is c.leads_run.ensures.before

-- one more run of states of one phase was asked, and what they lead to stands in the pool too
pub loop-at-preserved : goal.loop-at-preserved
loop-at-preserved g c =
    let m = g.M.Phases in
    let texts = c.args.book.now in
    let e = event_in texts c.args.event.now in
    let P = LeadsFrom m.figure (m.times c.args.machine.now) m.seen texts e in
    -- what was found before the run, and what the run leads to, is found of all up to its end
    let (at_le, has) = c.loop-at.invariant in
    let order = c.run_end-end.ensures.order in
    let le = c.requires.count in (
      order.1,
      found-run (owing_names m.names) (OwingInRange m.in_range) (owing_seen m.seen) texts P c.loop-at.at c.run_end-end.result c.args.pool.now c.loop-at.pool c.leads_run.new.pool order.0
          (omega (arith, order.1, le)) has c.in_ok-leads_run.ensures.gives,
    )
