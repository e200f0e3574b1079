use Rattle.std.proofs.Common.{◌≡◌, ◌∙◌, ◌≢◌, None, Some, inl, inr, ap, get_or, refl, sym, rules}
use Rattle.std.proofs.lemmas.Bool.{false≢true}
use Rattle.std.proofs.lemmas.Bool.Decides.{eqb_tells}
use Rattle.sip_machine.specs.Owing.{at_rest}
use Rattle.sip_states.proofs.keyed.NamesLemmas.{owes_something, rest_may_name}
use Rattle.sip_states.proofs.state_set.state_may_name.Goals as goal

-- the state is not at rest, so it owes something
pub returns-then-not-is_at_rest : goal.returns-then-not-is_at_rest
returns-then-not-is_at_rest g c d =
    let x = get_or c.args.states.now c.args.at d in
    let phase = c.phase-phase.result in
    let other : x ≢ at_rest phase = λ rest. false≢true (sym (search rules) ∙ (c.is_at_rest.ensures d).1 rest) in
    (λ _. inr (owes_something x phase (c.phase-phase.ensures d) other), λ _. refl)

-- a state at rest names the message of its phase and no other, so the two numbers are compared
pub returns-in-Some : goal.returns-in-Some
returns-in-Some g c d =
    let number = c.args.number in
    let named = c.in-Some.named in
    let message = c.message.result in
    -- the state is at rest, so it names what its phase names
    let rest = (c.is_at_rest.ensures d).0 (search rules) in
    let tells = rest_may_name g.M.Phases.names (get_or c.args.states.now c.args.at d) c.phase-phase.result message number rest c.message.ensures in
    elim (eqb_tells named number) [
      | inl does ↦ (λ _. tells.1 (c.in-Some.is ∙ ap Some does.1), λ _. does.0)
      | inr differs ↦ (
        λ yes. absurd (false≢true (sym differs.0 ∙ yes)),
        λ may. absurd (let one : Some named ≡ Some number = sym c.in-Some.is ∙ tells.0 may in differs.1 cc),
      )
    ]

-- a state at rest whose phase names no message names none
pub returns-in-None : goal.returns-in-None
returns-in-None g c d =
    let number = c.args.number in
    let message = c.message.result in
    let rest = (c.is_at_rest.ensures d).0 (search rules) in
    let tells = rest_may_name g.M.Phases.names (get_or c.args.states.now c.args.at d) c.phase-phase.result message number rest c.message.ensures in
    (λ yes. absurd (false≢true yes), λ may. absurd (let never : None ≡ Some number = sym c.in-None.is ∙ tells.0 may in cc))
