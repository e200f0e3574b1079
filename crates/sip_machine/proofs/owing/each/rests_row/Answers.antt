-- In the answers m is the machine by its figure and its phases, p its times and e the event as the definitions have it.
use Rattle.std.specs.Prelude.{◌≡◌, ◌<◌, ◌++◌, [], get_or, option_to_list}
use Rattle.std.specs.Option.{option_map}
use Rattle.std.proofs.Common.{sym, subst, append-nil}
use Rattle.std.proofs.lemmas.Result.{on_ok_weaker}
use Rattle.sip_machine.specs.NumberedEvent.{event_in}
use Rattle.sip_machine.specs.Owing.{owing_seen, owing_names, OwingInRange}
use Rattle.sip_machine.specs.Rules.{Knows}
use Rattle.sip_machine.specs.Limits.{IsWithin}
use Rattle.sip_machine.specs.FigureRules.{until_of}
use Rattle.sip_machine.specs.inner.Single.{AnswersOne}
use Rattle.sip_machine.specs.inner.Effects.{Rests, RestsFrom, rests_at, unexpired_at}
use Rattle.sip_machine.proofs.pools.PoolLemmas.{holds-here, in-phases, in-rows, state-here}
use Rattle.sip_machine.proofs.pools.CoversLemmas.{Covers-none, Covers-one}
use Rattle.sip_machine.proofs.steps.OwingEachLemmas.{lasting-answers}
use Rattle.sip_machine.proofs.owing.each.rests_row.Goals as goal

-- the index is one of the phases
pub index-requires : goal.index-requires
index-requires g c =
    subst (λ n. c.args.at < n) (sym c.pool.inside.phases.ok.0) (in-phases c.pool.inside.phases.items c.pool.inside.dues c.args.pool.now c.args.at c.pool.view_is c.requires.at)

-- the index is one of the rows that owe
pub until-requires-clause-row : goal.until-requires-clause-row
until-requires-clause-row g c = in-rows c.pool.inside.phases.items c.pool.inside.dues c.args.pool.now c.args.at c.pool.view_is c.pool.invariant c.requires.at

-- the moments of the state are in range
pub until-requires-clause-in_range : goal.until-requires-clause-in_range
until-requires-clause-in_range g c =
    holds-here (OwingInRange g.M.Phases.in_range) c.pool.inside.phases.items c.pool.inside.dues c.args.pool.now c.args.at c.index.result.now c.pool.view_is c.requires.at c.index.ensures c.requires.in_range

-- the index is one of the rows that owe
pub rests-requires-clause-row : goal.rests-requires-clause-row
rests-requires-clause-row g c = in-rows c.pool.inside.phases.items c.pool.inside.dues c.args.pool.now c.args.at c.pool.view_is c.pool.invariant c.requires.at

-- the book has what the state names
pub rests-requires-clause-known : goal.rests-requires-clause-known
rests-requires-clause-known g c =
    holds-here (Knows (owing_names g.M.Phases.names) c.args.book.now) c.pool.inside.phases.items c.pool.inside.dues c.args.pool.now c.args.at c.index.result.now c.pool.view_is c.requires.at c.index.ensures c.requires.known

-- the moments of the state are in range
pub rests-requires-clause-in_range : goal.rests-requires-clause-in_range
rests-requires-clause-in_range g c =
    holds-here (OwingInRange g.M.Phases.in_range) c.pool.inside.phases.items c.pool.inside.dues c.args.pool.now c.args.at c.index.result.now c.pool.view_is c.requires.at c.index.ensures c.requires.in_range

-- where the state cannot wait until the moment, it gives nothing
pub returns-then-is_past-clause-gives : goal.returns-then-is_past-clause-gives
returns-then-is_past-clause-gives g c = λ d.
    let m = g.M.Phases in
    let texts = c.args.book.now in
    let p = m.times c.args.machine.now in
    let e = event_in texts c.args.event.now in
    -- x is the state at the index, of which the code has read the phase and the debts (`here`)
    let x = get_or c.args.pool.now c.args.at d in
    let here = state-here c.pool.inside.phases.items c.pool.inside.dues c.args.pool.now c.args.at c.index.result.now d c.pool.view_is c.requires.at c.index.ensures in
    -- x cannot wait until the moment of the event e, so no state y is to be given
    let past = subst (λ x. ¬ (IsWithin e.moment (until_of m.figure p (owing_seen m.seen texts x)))) here (rw (c.moment.ensures, c.until.ensures texts) at c.if-is_past.ensures) in
    ([], sym (append-nil c.args.pool.now), Covers-none (owing_names m.names) (OwingInRange m.in_range) (owing_seen m.seen) texts (RestsFrom m.figure p m.seen texts e x) (λ y h. past h.0))

-- what the state gives without a row is found, if it can wait until the moment
pub returns-clause-gives : goal.returns-clause-gives
returns-clause-gives g c = λ d.
    let m = g.M.Phases in
    let texts = c.args.book.now in
    let p = m.times c.args.machine.now in
    let e = event_in texts c.args.event.now in
    let x = get_or c.args.pool.now c.args.at d in
    -- the state at the index can wait until the moment or not
    let here = state-here c.pool.inside.phases.items c.pool.inside.dues c.args.pool.now c.args.at c.index.result.now d c.pool.view_is c.requires.at c.index.ensures in
    let within = subst (λ x. IsWithin e.moment (until_of m.figure p (owing_seen m.seen texts x))) here (rw (c.moment.ensures, c.until.ensures texts) at c.if-is_past.ensures) in
    let rested = option_map (λ rest. rests_at e.moment rest x) c.in_ok-rest.rest in
    -- what it gives without a row is one state at most
    let one = subst (λ x. AnswersOne (owing_names m.names) (OwingInRange m.in_range) (owing_seen m.seen) texts
    (Rests m.figure e (owing_seen m.seen texts (unexpired_at e.moment x))) (option_map (λ rest. rests_at e.moment rest x) c.in_ok-rest.rest)) here c.in_ok-rest.ensures.gives in
    let covers = Covers-one (owing_names m.names) (OwingInRange m.in_range) (owing_seen m.seen) texts (RestsFrom m.figure p m.seen texts e x) rested
    (lasting-answers m.figure p m.seen m.names m.in_range texts e.moment x (Rests m.figure e (owing_seen m.seen texts (unexpired_at e.moment x))) rested within one) in
    -- the state that was found was pushed
    on_ok_weaker c.push_rested.result (λ (is : c.push_rested.new.self ≡ c.args.pool.now ++ option_to_list rested). (option_to_list rested, is, covers))
    (rw (c.in_ok-rest.ensures.same, c.pool.view_is, c.moment-2.ensures) at c.push_rested.ensures.ok d)

-- the old states are as they were
pub returns-clause-before : goal.returns-clause-before
returns-clause-before g c = rw (c.in_ok-rest.ensures.same, c.pool.view_is) at c.push_rested.ensures.before
