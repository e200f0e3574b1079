-- In the answers m is the machine by its figure and its phases, and e the event as the definitions have it.
use Rattle.std.specs.Prelude.{◌≡◌, ◌<◌, ◌+◌, ◌∷◌, [], get_or, length}
use Rattle.std.proofs.Common.{sym, ◌∙◌, ap, subst, arith}
use Rattle.std.proofs.lemmas.List.{drop_all, get_or_append_left, length-take}
use Rattle.sip_ledger.specs.Lists.{from_to}
use Rattle.sip_machine.specs.NumberedEvent.{event_in}
use Rattle.sip_machine.specs.Owing.{owing_seen, owing_names, OwingInRange}
use Rattle.sip_machine.specs.Rules.{Covers, Knows}
use Rattle.sip_machine.specs.inner.Effects.{RestsFrom}
use Rattle.sip_machine.proofs.Words.{nat_tests}
use Rattle.sip_machine.proofs.pools.CoversLemmas.{HasFound, found-none, found-more, Covers-alone, slice-at, before-more}
use Rattle.sip_machine.proofs.pools.PoolLemmas.{some-at}
use Rattle.sip_machine.proofs.pools.PoolEachLemmas.{from_to-more}
use Rattle.sip_machine.proofs.owing.each.rests_rows.Goals as goal

-- before the first state nothing was found
pub loop-at-init : goal.loop-at-init
loop-at-init g c =
    let m = g.M.Phases in
    let texts = c.args.book.now in
    let e = event_in texts c.args.event.now in
    let none : from_to c.args.from c.args.from c.args.pool.now ≡ [] = grind (arith, nat_tests, drop_all, length-take) in
    -- no state was asked, and nothing was pushed
    let P = RestsFrom m.figure (m.times c.args.machine.now) m.seen texts e in (
      omega arith,
      omega (arith, c.requires.from),
      subst (λ xs. HasFound (owing_names m.names) (OwingInRange m.in_range) (owing_seen m.seen) texts P xs c.args.pool.now c.args.pool.now) (sym none)
          (found-none (owing_names m.names) (OwingInRange m.in_range) (owing_seen m.seen) texts P c.args.pool.now),
    )

-- the book has all that the next state names, since it is an old one
pub rests_row-requires-clause-known : goal.rests_row-requires-clause-known
rests_row-requires-clause-known g c = λ d.
    let (from_le, to_le, (found, is, covers)) = c.loop-at.invariant in
    let below = c.loop-at-test.true in
    slice-at (Knows (owing_names g.M.Phases.names) c.args.book.now) c.args.from c.args.to c.loop-at.at c.args.pool.now found c.loop-at.pool d is from_le below c.requires.to c.requires.known

-- the moments of the state are in range
pub rests_row-requires-clause-in_range : goal.rests_row-requires-clause-in_range
rests_row-requires-clause-in_range g c = λ d.
    let (from_le, to_le, (found, is, covers)) = c.loop-at.invariant in
    slice-at (OwingInRange g.M.Phases.in_range) c.args.from c.args.to c.loop-at.at c.args.pool.now found c.loop-at.pool d is from_le c.loop-at-test.true c.requires.to c.requires.in_range

-- where memory is refused, the old states are as they were
pub returns-in_err-rests_row-clause-before : goal.returns-in_err-rests_row-clause-before
returns-in_err-rests_row-clause-before g c =
    let (from_le, to_le, (found, is, covers)) = c.loop-at.invariant in
    before-more c.args.pool.now c.loop-at.pool c.rests_row.new.pool found is c.rests_row.ensures.before

-- after one state more, what the states up to it give without a row is found
pub loop-at-preserved : goal.loop-at-preserved
loop-at-preserved g c =
    let m = g.M.Phases in
    let texts = c.args.book.now in
    let e = event_in texts c.args.event.now in
    let P = RestsFrom m.figure (m.times c.args.machine.now) m.seen texts e in
    let old = c.args.pool.now in
    let at = c.loop-at.at in
    -- what was found so far stands after the old states
    let (from_le, to_le, (found, is, covers)) = c.loop-at.invariant in
    let below = c.loop-at-test.true in
    let le = c.requires.to in
    let low : at < length old = omega (arith, below, le) in
    let d = some-at old at low in
    let x = get_or old at d in
    -- the next old state is still at its index, and what it gives was pushed
    let here : get_or c.loop-at.pool at d ≡ x = ap (λ ys. get_or ys at d) is ∙ get_or_append_left old found d at low in
    let (added, new_is, gives) = c.in_ok-rests_row.ensures.gives d in
    let covers_more = subst (λ s. Covers (owing_names m.names) (OwingInRange m.in_range) (owing_seen m.seen) texts (P s) added) here gives in (
      omega (arith, from_le),
      omega (arith, below),
      found-more (owing_names m.names) (OwingInRange m.in_range) (owing_seen m.seen) texts P (from_to c.args.from at old) (x ∷ []) (from_to c.args.from (at + 1) old) old c.loop-at.pool c.rests_row.new.pool added
          (from_to-more c.args.from at old d from_le low) (found, is, covers) new_is (Covers-alone (owing_names m.names) (OwingInRange m.in_range) (owing_seen m.seen) texts P x added covers_more),
    )
