use Rattle.sip_machine.proofs.Words.{◌<◌, All, length, ◌∙◌, ap, ap₂, get_or, picked, beside}
use Rattle.sip_machine.proofs.pools.PoolLemmas.{in-phases}
use Rattle.sip_machine.proofs.pools.PoolEachLemmas.{beside-picked}
use Rattle.sip_machine.proofs.pool.Pool.keep.Goals as goal

-- the phases and the debts are those of the rows that are kept, in their order
pub returns-in-None : goal.returns-in-None
returns-in-None g c = λ x.
    let phases = c.self.inside.phases.items in
    let rows = c.self.inside.dues in
    let kept = c.args.rows.now in
    -- each index is one of a phase
    let within : All (λ row. row < length phases) kept = λ k d low. in-phases phases rows c.args.self.now (get_or kept k d) c.self.view_is (c.requires.within k d low) in
    ap₂ beside (c.keep_phases.ensures.are x.phase) c.keep.ensures ∙ beside-picked phases rows kept x within ∙ ap (λ xs. picked xs x kept) c.self.view_is
