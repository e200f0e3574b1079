use Rattle.std.specs.Prelude.{◌<◌, get_or, length}
use Rattle.std.proofs.Common.{◌∙◌, refl, sym, arith, take_all, true≢false}
use Rattle.std.proofs.lemmas.List.{get_or_default}
use Rattle.std.proofs.lemmas.List.Elements.{All-get_or, All-more}
use Rattle.sip_states.specs.inner.Ways.{CanEnd}
use Rattle.sip_states.proofs.ends.some_can_end.Goals as goal

-- the moments of the state are in range
pub can_end-requires-clause-in_range : goal.can_end-requires-clause-in_range
can_end-requires-clause-in_range g c = λ d. All-get_or g.M.Machine.in_range c.args.pool.now c.loop-at.at d (omega arith) c.requires

-- the state that was found can end
pub returns-then-can_end : goal.returns-then-can_end
returns-then-can_end g c =
    let xs = c.args.pool.now in
    let at = c.loop-at.at in
    let d = g.M.Machine.ended c.args.machine.now in
    let low : at < length xs = omega arith in
    (λ _. (at, get_or xs at d, low, get_or_default xs at (get_or xs at d) d low, (c.can_end.ensures d).0 c.if-can_end.true), λ _. refl)

-- no state up to here can end
pub loop-at-preserved : goal.loop-at-preserved
loop-at-preserved g c =
    let m = c.args.machine.now in
    let d = g.M.Machine.ended m in
    All-more (λ x. CanEnd (g.M.Machine.end_window m x) (g.M.Machine.until m x) c.args.from c.args.to → ⊥) c.args.pool.now c.loop-at.at d (omega arith) c.loop-at.invariant
    (λ can. true≢false (sym ((c.can_end.ensures d).1 can) ∙ c.if-can_end.false))

-- all states were looked at, and none can end
pub returns : goal.returns
returns g c =
    let all = rw (take_all c.loop-at.at c.args.pool.now (omega arith)) at c.loop-at.invariant in
    (λ told. absurd (true≢false (sym told)), λ (k, x, low, is, can). absurd (all k x low (rw is can)))
