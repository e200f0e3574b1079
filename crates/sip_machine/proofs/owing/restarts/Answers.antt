-- In the answers m is the machine by its figure and its phases.
use Rattle.std.specs.Prelude.{◌≡◌, [], ◌∷◌}
use Rattle.std.proofs.Common.{sym, ◌∙◌, true≢false}
use Rattle.std.proofs.lemmas.List.Elements.{All-nil}
use Rattle.sip_machine.specs.Texts.{Keeps}
use Rattle.sip_machine.specs.inner.Turns.{state_in}
use Rattle.sip_machine.proofs.steps.OwingSteps.{restarted-ended}
use Rattle.sip_machine.proofs.owing.restarts.Goals as goal

-- a restart ends a state that is not idle
pub returns : goal.returns
returns g c =
    λ t owes.
    let m = g.M.Phases in
    let machine = c.args.machine.now in
    let texts = c.args.book.now in
    -- the state has this phase and these debts, and is not idle
    let state = state_in c.args.phase.now (owes ∷ []) 0 in
    let idle = m.idle machine in
    let fits = g.met.M.Phases.idle_fits machine in
    let differ = rw c.idle.ensures at c.if-eq.ensures in
    -- the state is not idle, since its phase is not
    let other = λ (is : m.seen texts state.phase ≡ m.figure.idle).
    let same : state.phase ≡ idle = g.met.M.Phases.apart texts state.phase idle c.known.ensures c.requires (rw fits.0 (All-nil (Keeps texts))) (is ∙ sym (g.met.M.Phases.idle_stands machine texts)) in
    true≢false (sym (rw same at differ ∙ (g.met.M.Phase.Eq.laws).refl idle)) in
    rw (c.quiets-2.ensures, c.ended.ensures)
    (restarted-ended m.figure (m.times machine) m.seen m.names m.in_range texts t state (m.ended machine) other (g.met.M.Phases.ended_stands machine texts)
    (g.met.M.Phases.ended_fits machine))
