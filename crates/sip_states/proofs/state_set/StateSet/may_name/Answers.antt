use Rattle.std.specs.Prelude.{◌≡◌, ◌<◌, length}
use Rattle.std.specs.List.{Any}
use Rattle.std.proofs.Common.{◌∙◌, ap, arith, get_or, refl, subst, sym}
use Rattle.std.proofs.lemmas.Bool.{false≢true}
use Rattle.std.proofs.lemmas.List.{get_or_default, take_all}
use Rattle.sip_machine.specs.Owing.{at_rest}
use Rattle.sip_states.specs.Naming.{MayName}
use Rattle.sip_states.proofs.keyed.NamesLemmas.{none_more, may_not_name}
use Rattle.sip_states.proofs.state_set.StateSet.may_name.Goals as goal

-- no state was looked at yet
pub loop-at-init : goal.loop-at-init
loop-at-init g c any = omega (arith, any.2)

-- no state up to here names the message
pub loop-at-preserved : goal.loop-at-preserved
loop-at-preserved g c =
    -- xs are the states of the set; d stands for no state; the state that was looked at may not name the message
    let xs = c.args.self.now.states in
    let same : length c.self.inside.states ≡ length xs = ap (λ h. length h.states) c.self.view_is in
    let low : c.loop-at.at < length xs = omega (arith, same) in
    let d = at_rest (g.M.Phases.ended c.self.inside.machine) in
    let tells = rw (ap (λ h. h.states) c.self.view_is) at c.state_may_name.ensures d in
    none_more (MayName g.M.Phases.names c.args.number) xs c.loop-at.at d low c.loop-at.invariant
    (λ may. false≢true (sym c.if-state_may_name.false ∙ tells.1 may))

-- the state that was found is a state of the set that names the message
pub returns-then-state_may_name-clause-may : goal.returns-then-state_may_name-clause-may
returns-then-state_may_name-clause-may g c =
    -- xs are the states of the set; d stands for no state
    let xs = c.args.self.now.states in
    let same : length c.self.inside.states ≡ length xs = ap (λ h. length h.states) c.self.view_is in
    let low : c.loop-at.at < length xs = omega (arith, same) in
    let d = at_rest (g.M.Phases.ended c.self.inside.machine) in
    let tells = rw (ap (λ h. h.states) c.self.view_is) at c.state_may_name.ensures d in
    (λ _. (c.loop-at.at, get_or xs c.loop-at.at d, low, get_or_default xs c.loop-at.at (get_or xs c.loop-at.at d) d low, tells.0 c.if-state_may_name.true), λ _. refl)

-- at the end of the loop no state was found that names the message
pub returns-clause-may : goal.returns-clause-may
returns-clause-may g c =
    let xs = c.args.self.now.states in
    let same : length c.self.inside.states ≡ length xs = ap (λ h. length h.states) c.self.view_is in
    let all = take_all c.loop-at.at xs (omega (arith, same)) in
    let none = subst (λ ss. ¬ Any (MayName g.M.Phases.names c.args.number) ss) all c.loop-at.invariant in
    (λ yes. absurd (false≢true yes), λ any. absurd (none any))

-- at the end of the loop no state was found, so no number is that of the message
pub returns-clause-none : goal.returns-clause-none
returns-clause-none g c =
    let xs = c.args.self.now.states in
    let same : length c.self.inside.states ≡ length xs = ap (λ h. length h.states) c.self.view_is in
    let all = take_all c.loop-at.at xs (omega (arith, same)) in
    let none = subst (λ ss. ¬ Any (MayName g.M.Phases.names c.args.number) ss) all c.loop-at.invariant in
    λ _. may_not_name g.M.Phases.names xs c.args.number none
