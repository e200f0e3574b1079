use Rattle.std.specs.Prelude.{◌≢◌, ◌<◌, length}
use Rattle.std.proofs.Common.{◌∙◌, refl, sym, arith, take_all, true≢false}
use Rattle.std.proofs.lemmas.List.Elements.{All-contains, All-more}
use Rattle.sip_machine.specs.Owing.{at_rest}
use Rattle.sip_states.proofs.ends.has_at_rest.Goals as goal

-- the state that rests in the phase was found, so the answer is yes
pub returns-then-is_at_rest : goal.returns-then-is_at_rest
returns-then-is_at_rest g c =
    let low : c.loop-at.at < length c.args.pool.now = omega arith in
    (λ _. (c.loop-at.at, low, (c.is_at_rest.ensures (at_rest c.args.phase)).0 c.if-is_at_rest.true), λ _. refl)

-- one state more was looked at, and it is not the one that rests in the phase
pub loop-at-preserved : goal.loop-at-preserved
loop-at-preserved g c =
    All-more (λ x. x ≢ at_rest c.args.phase) c.args.pool.now c.loop-at.at (at_rest c.args.phase) (omega arith) c.loop-at.invariant
    (λ same. true≢false (sym ((c.is_at_rest.ensures (at_rest c.args.phase)).1 same) ∙ c.if-is_at_rest.false))

-- at the end of the loop no state was found that rests in the phase
pub returns : goal.returns
returns g c =
    let all = rw (take_all c.loop-at.at c.args.pool.now (omega arith)) at c.loop-at.invariant in
    (λ told. absurd (true≢false (sym told)), λ has. absurd (All-contains (λ x. x ≢ at_rest c.args.phase) c.args.pool.now (at_rest c.args.phase) all has refl))
