use Rattle.sip_machine.proofs.Words.{All-push, ◌<◌, ◌≡◌, get_or, length, ◌∙◌, sym, arith}
use Rattle.sip_machine.proofs.pools.PoolLemmas.{phase-at}
use Rattle.sip_machine.proofs.pools.PoolEachLemmas.{from_to-more}
use Rattle.sip_machine.proofs.pool.Pool.run_end.Goals as goal

-- one more state has the phase of the first one
pub loop-end-preserved : goal.loop-end-preserved
loop-end-preserved g c =
    let xs = c.args.self.now in
    -- the next state is one of the pool
    let low : c.loop-end.end < length xs = omega arith in (
      omega arith,
      omega arith,
      -- the state at the end of the run has the phase of the first state
      λ d.
          let here = phase-at _ _ _ c.loop-end.end c.index-in-loop-end.result.now d c.self.view_is low c.index-in-loop-end.ensures in
          let first = phase-at _ _ _ c.args.at c.index.result.now d c.self.view_is (omega arith) c.index.ensures in
          rw (from_to-more c.args.at c.loop-end.end xs d (omega arith) low) (All-push (λ x. x.phase ≡ (get_or xs c.args.at d).phase) _ _ (c.loop-end.invariant.2 d)
          (here ∙ g.met.P.Phase.exact c.index-in-loop-end.result.now c.index.result.now (sym c.if-eq.ensures) ∙ sym first)),
    )
