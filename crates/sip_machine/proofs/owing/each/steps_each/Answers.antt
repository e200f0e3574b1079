-- In the answers m is the machine by its figure and its phases, and e the event as the definitions have it.
use Rattle.std.specs.Prelude.{◌≡◌, ◌<◌, ◌+◌, ◌∷◌, [], get_or, length, take}
use Rattle.std.proofs.Common.{◌∙◌, ap, subst, arith}
use Rattle.std.proofs.lemmas.List.{get_or_append_left, take_more}
use Rattle.sip_machine.specs.NumberedEvent.{event_in}
use Rattle.sip_machine.specs.Rules.{Knows, StandFor}
use Rattle.sip_machine.specs.FigureRules.{TakeOf}
use Rattle.sip_machine.specs.Owing.{CodeOwing, owing_seen, owing_names, OwingInRange}
use Rattle.sip_machine.proofs.pools.CoversLemmas.{HasFound, found-none, found-more, Covers-alone, Covers-stood, slice-at}
use Rattle.sip_machine.proofs.pools.PoolLemmas.{some-at}
use Rattle.sip_machine.proofs.owing.each.steps_each.Goals as goal

-- before the loop no state was asked, and nothing was found
pub loop-at-init : goal.loop-at-init
loop-at-init g c =
    let m = g.M.Phases in
    let texts = c.args.book.now in
    found-none (owing_names m.names) (OwingInRange m.in_range) (owing_seen m.seen) texts
    (λ x. TakeOf m.figure (m.times c.args.machine.now) (owing_seen m.seen texts x) (event_in texts c.args.event.now)) c.args.pool.now

-- the book has all that the next state names, since it is an old one
pub successors-requires-clause-known : goal.successors-requires-clause-known
successors-requires-clause-known g c = λ d.
    let (found, is, covers) = c.loop-at.invariant in
    slice-at (Knows (owing_names g.M.Phases.names) c.args.book.now) 0 c.args.count c.loop-at.at c.args.pool.now found c.loop-at.pool d is (omega arith) c.loop-at-test.true c.requires.count c.requires.known

-- the moments of the state are in range
pub successors-requires-clause-in_range : goal.successors-requires-clause-in_range
successors-requires-clause-in_range g c = λ d.
    let (found, is, covers) = c.loop-at.invariant in
    slice-at (OwingInRange g.M.Phases.in_range) 0 c.args.count c.loop-at.at c.args.pool.now found c.loop-at.pool d is (omega arith) c.loop-at-test.true c.requires.count c.requires.in_range

-- after one state more, what the states up to it take is found
pub loop-at-preserved : goal.loop-at-preserved
loop-at-preserved g c =
    let m = g.M.Phases in
    let texts = c.args.book.now in
    let e = event_in texts c.args.event.now in
    -- P says of a state what it takes of the event; `Denot` is the type of the phases as clauses see them
    let P = λ (x : CodeOwing g.row.M-Phase.Denot). TakeOf m.figure (m.times c.args.machine.now) (owing_seen m.seen texts x) e in
    let old = c.args.pool.now in
    let at = c.loop-at.at in
    -- what was found so far stands after the old states
    let (found, is, covers) = c.loop-at.invariant in
    let below = c.loop-at-test.true in
    let le = c.requires.count in
    let low : at < length old = omega (arith, below, le) in
    let d = some-at old at low in
    let x = get_or old at d in
    -- the next old state is still at its index, and what it takes was pushed
    let here : get_or c.loop-at.pool at d ≡ x = ap (λ ys. get_or ys at d) is ∙ get_or_append_left old found d at low in
    let (added, new_is, gives) = c.in_ok-successors.ensures.ok d in
    let stands = subst (λ s. StandFor (owing_names m.names) (OwingInRange m.in_range) (owing_seen m.seen) texts (P s) added) here gives in
    found-more (owing_names m.names) (OwingInRange m.in_range) (owing_seen m.seen) texts P (take at old) (x ∷ []) (take (at + 1) old) old c.loop-at.pool c.successors.new.pool added
    (take_more old at d low) (found, is, covers) new_is
    (Covers-alone (owing_names m.names) (OwingInRange m.in_range) (owing_seen m.seen) texts P x added (Covers-stood (owing_names m.names) (OwingInRange m.in_range) (owing_seen m.seen) texts (P x) added stands))

-- at the end of the loop all states that were to be asked have been asked
pub returns-clause-gives : goal.returns-clause-gives
returns-clause-gives g c =
    let m = g.M.Phases in
    let texts = c.args.book.now in
    -- the loop ends where `at` is the count, so what it has found is of all states that were to be asked
    let at = c.loop-at.at in
    let all : at ≡ c.args.count = omega arith in
    subst (λ n. HasFound (owing_names m.names) (OwingInRange m.in_range) (owing_seen m.seen) texts
    (λ x. TakeOf m.figure (m.times c.args.machine.now) (owing_seen m.seen texts x) (event_in texts c.args.event.now)) (take n c.args.pool.now) c.args.pool.now c.loop-at.pool) all c.loop-at.invariant
