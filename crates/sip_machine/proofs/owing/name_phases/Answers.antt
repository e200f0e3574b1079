-- At each turn of the loop (`c.loop-at.invariant`) part 0 says that `at` is not past the states, and 1 that what the phases before it name is appended.
use Rattle.std.specs.Prelude.{◌≡◌, ◌≤◌, ◌++◌, flat_map, get_or, length, option_to_list}
use Rattle.std.proofs.Common.{ap, subst, ◌∙◌, arith}
use Rattle.std.proofs.lemmas.List.{take_all}
use Rattle.sip_machine.specs.Naming.{AppendsAll}
use Rattle.sip_machine.proofs.debts.NamesLemmas.{run-appends}
use Rattle.sip_machine.proofs.pools.PoolLemmas.{some-at}
use Rattle.sip_machine.proofs.owing.name_phases.Goals as goal

-- after one more run of states of one phase, what the phases up to its end name is appended
pub loop-at-preserved : goal.loop-at-preserved
loop-at-preserved g c =
    let xs = c.args.pool.now in
    let at = c.loop-at.at in
    let end = c.run_end-at.result in
    let order = c.run_end-at.ensures.order in
    let low = order.0 in
    let high : end ≤ length xs = omega (arith, order.1) in
    -- the states of the run have one phase, whose message is appended if it names one
    let d = some-at xs at (omega (arith, low, high)) in
    let phase = (get_or xs at d).phase in
    let named : option_to_list c.message.result ≡ g.M.Phases.names phase = c.message.ensures ∙ ap g.M.Phases.names (c.phase-phase.ensures d) in (
      high,
      run-appends g.M.Phases.names xs at end phase c.args.out.now.items c.loop-at.out.items c.push_some.new.out.items low high c.loop-at.invariant.1 (c.run_end-at.ensures.same d)
          (c.in_ok-push_some.ensures.ok ∙ ap (λ ns. c.loop-at.out.items ++ ns) named),
    )

-- at the end of the loop what all phases name is appended
pub returns-clause-ok : goal.returns-clause-ok
returns-clause-ok g c =
    let all = take_all c.loop-at.at c.args.pool.now (omega arith) in
    subst (λ ys. AppendsAll (flat_map (λ x. g.M.Phases.names x.phase) ys) c.args.out.now.items c.loop-at.out.items) all c.loop-at.invariant.1
