use Rattle.sip_machine.proofs.Words.{◌≡◌, ◌++◌, get_or, option_to_list, option_map, ◌∙◌, ap, ap₂, append_assoc, get_or_append_left, on_ok, led_by, rests_at}
use Rattle.sip_machine.proofs.pool.Pool.push_given.Goals as goal

-- first the state as the row leads it is pushed, then the state as it rests
pub returns-clause-ok : goal.returns-clause-ok
returns-clause-ok g c = λ d.
    let xs = c.args.self.now in
    let at = c.args.at in
    let t = c.args.moment in
    let x = get_or xs at d in
    let led = option_to_list (option_map (λ turn. led_by c.args.params.now t turn x) c.args.effect.turn) in
    -- the state as its row leads it stands after the others
    let first : c.push_led-led.new.self ≡ xs ++ led = on_ok c.push_led-led.result _ (rw c.is_err.ensures.value at c.if-is_err.false) (c.push_led-led.ensures.ok d) in
    let here : get_or c.push_led-led.new.self at d ≡ x = ap (λ ys. get_or ys at d) first ∙ get_or_append_left xs led d at c.requires.at in
    -- the state as it rests stands after that
    let more = on_ok c.push_rested.result _ (rw c.is_err-else-is_err.ensures.value at c.if-is_err-2.false) (c.push_rested.ensures.ok d) in
    more ∙ ap₂ (λ ys y. ys ++ option_to_list (option_map (λ rest. rests_at t rest y) c.args.effect.rest)) first here
    ∙ append_assoc xs led (option_to_list (option_map (λ rest. rests_at t rest x) c.args.effect.rest))
