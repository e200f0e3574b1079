use Rattle.sip_machine.proofs.Words.{arith, nat_tests}
use Rattle.sip_machine.proofs.pools.PoolLemmas.{phase-at}
use Rattle.sip_machine.proofs.pool.Pool.is_same.Goals as goal

-- where the phases differ, the states differ
pub returns-else-eq : goal.returns-else-eq
returns-else-eq g c = λ d.
    let is = phase-at _ _ _ c.args.at c.index.result.now d c.self.view_is c.requires.at c.index.ensures in
    let other_is = phase-at _ _ _ c.args.other c.index-2.result.now d c.self.view_is c.requires.other c.index-2.ensures in
    let same = g.met.P.Eq.laws.refl c.index-2.result.now in
    grind (arith, nat_tests)
