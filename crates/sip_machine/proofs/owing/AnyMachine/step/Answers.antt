use Rattle.std.specs.Prelude.{◌≡◌, get_or, length, set}
use Rattle.std.proofs.Common.{◌∙◌, ap, arith}
use Rattle.sip_machine.specs.inner.Effects.{led_by, rests_at}
use Rattle.sip_machine.proofs.pools.PoolLemmas.{alone-set, some-at}
use Rattle.sip_machine.proofs.owing.AnyMachine.step.Goals as goal

-- the event leads the one state to one state
pub returns-in_ok-lead-in-Some-None-clause-one : goal.returns-in_ok-lead-in-Some-None-clause-one
returns-in_ok-lead-in-Some-None-clause-one g c = λ d.
    let xs = c.args.pool.now in
    let led = led_by (g.M.Phases.times c.args.self.now) c.args.event.now.moment c.in-Some-None.turn (get_or xs 0 d) in
    let changed : c.lead.new.self ≡ set xs 0 led = rw (c.in_ok-turn.ensures.same, c.params.ensures, c.moment-moment.ensures) at c.in_ok-lead-in-Some-None.ensures.ok d in
    rw (changed ∙ alone-set xs led c.requires.alone) (rw (c.in-Some-None.is-0, c.in-Some-None.is-1) at c.in_ok-turn.ensures.gives d)

-- the one state is led by its row in its own place, so one state stands there again
pub returns-in_ok-lead-in-Some-None-clause-alone : goal.returns-in_ok-lead-in-Some-None-clause-alone
returns-in_ok-lead-in-Some-None-clause-alone g c =
    let xs = c.args.pool.now in
    let one = c.requires.alone in
    let d = some-at xs 0 (omega (arith, one)) in
    let led = led_by (g.M.Phases.times c.args.self.now) c.args.event.now.moment c.in-Some-None.turn (get_or xs 0 d) in
    -- the one state of the pool was set to this one, and so there is one again
    let changed : c.lead.new.self ≡ set xs 0 led = rw (c.in_ok-turn.ensures.same, c.params.ensures, c.moment-moment.ensures) at c.in_ok-lead-in-Some-None.ensures.ok d in
    ap length (changed ∙ alone-set xs led one)

-- the one state that the event gives is the old one as it rests
pub returns-in_ok-come_to_rest-in-None-Some-clause-one : goal.returns-in_ok-come_to_rest-in-None-Some-clause-one
returns-in_ok-come_to_rest-in-None-Some-clause-one g c = λ d.
    let xs = c.args.pool.now in
    let rested = rests_at c.args.event.now.moment c.in-None-Some.rest (get_or xs 0 d) in
    let changed : c.come_to_rest.new.self ≡ set xs 0 rested = rw (c.in_ok-turn.ensures.same, c.moment-moment.ensures) at c.in_ok-come_to_rest-in-None-Some.ensures.ok d in
    rw (changed ∙ alone-set xs rested c.requires.alone) (rw (c.in-None-Some.is-0, c.in-None-Some.is-1) at c.in_ok-turn.ensures.gives d)

-- the one state comes to rest in its own place, so one state stands there again
pub returns-in_ok-come_to_rest-in-None-Some-clause-alone : goal.returns-in_ok-come_to_rest-in-None-Some-clause-alone
returns-in_ok-come_to_rest-in-None-Some-clause-alone g c =
    let xs = c.args.pool.now in
    let one = c.requires.alone in
    let d = some-at xs 0 (omega (arith, one)) in
    let rested = rests_at c.args.event.now.moment c.in-None-Some.rest (get_or xs 0 d) in
    -- the one state of the pool was set to this one, and so there is one again
    let changed : c.come_to_rest.new.self ≡ set xs 0 rested = rw (c.in_ok-turn.ensures.same, c.moment-moment.ensures) at c.in_ok-come_to_rest-in-None-Some.ensures.ok d in
    ap length (changed ∙ alone-set xs rested one)
