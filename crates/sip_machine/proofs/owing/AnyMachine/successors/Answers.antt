use Rattle.std.specs.Prelude.{◌≡◌, ◌++◌, get_or, option_to_list}
use Rattle.sip_machine.specs.inner.Effects.{given_by}
use Rattle.std.proofs.lemmas.Result.{on_ok_weaker}
use Rattle.sip_machine.proofs.owing.AnyMachine.successors.Goals as goal

-- the effect gives at most two states, and these are put after the others
pub returns-clause-ok : goal.returns-clause-ok
returns-clause-ok g c = λ d.
    let p = g.M.Phases.times c.args.self.now in
    let both = given_by p c.args.event.now.moment (get_or c.args.pool.now c.args.at d) c.in_ok-effect.effect in
    let gives = c.in_ok-effect.ensures.gives d in
    on_ok_weaker c.push_given.result (λ (is : c.push_given.new.self ≡ c.args.pool.now ++ (option_to_list both.0 ++ option_to_list both.1)). (option_to_list both.0 ++ option_to_list both.1, is, gives))
    (rw (c.in_ok-effect.ensures.same, c.params.ensures, c.moment.ensures) at c.push_given.ensures.ok d)
