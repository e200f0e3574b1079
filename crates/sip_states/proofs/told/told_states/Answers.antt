use Rattle.std.specs.Prelude.{◌≡◌, ◌<◌, ◌++◌, ◌∷◌, [], get_or, length, map, take}
use Rattle.std.proofs.Common.{◌∙◌, ap, ap₂, sym, arith}
use Rattle.std.proofs.lemmas.List.{map-append, take_more}
use Rattle.sip_machine.specs.Owing.{at_rest}
use Rattle.sip_states.specs.Told.{said_state, meant}
use Rattle.sip_states.specs.declared.told.ToldState.{ToldState}
use Rattle.sip_states.proofs.told.told_states.Goals as goal

-- what is told so far says what the states up to here mean, in their order
pub loop-at-preserved : goal.loop-at-preserved
loop-at-preserved g c = λ texts.
    let m = g.M.Phases in
    let states = c.args.set.now.states in
    let at = c.loop-at.at in
    let d = at_rest c.phase.result in
    let x = get_or states at d in
    let mean = meant m.told m.seen m.names texts in
    -- the phase, its words and its runs of debts are those of the state
    let phase : c.phase.result ≡ x.phase = rw c.states-states.ensures at c.phase.ensures d in
    let runs = rw c.states-states.ensures at c.in_ok-runs.ensures d in
    let told : ToldState = record { phase = c.in_ok-told.field-0; owes = c.in_ok-runs.field-0 } in
    let words = c.in_ok-told.ensures.words texts ∙ ap (λ p. m.told (m.seen texts p)) phase in
    let names = c.in_ok-told.ensures.names ∙ ap m.names phase in
    let said : said_state texts told ≡ mean x = λ t. (words t, names t, runs.whole t) in
    -- one state more is told as it is meant
    let size : length c.states-states.result.now ≡ length states = ap length c.states-states.ensures in
    let low : at < length states = omega (arith, size) in
    ap (map (said_state texts)) c.in_ok-push.ensures.items ∙ map-append (said_state texts) c.loop-at.told.items (told ∷ [])
    ∙ ap₂ (λ xs y. xs ++ y ∷ []) (c.loop-at.invariant texts) said ∙ sym (map-append mean (take at states) (x ∷ [])) ∙ ap (map mean) (sym (take_more states at d low))
