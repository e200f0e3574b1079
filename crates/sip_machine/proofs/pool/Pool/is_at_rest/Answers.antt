use Rattle.sip_machine.proofs.Words.{arith, nat_tests}
use Rattle.sip_machine.proofs.pools.PoolLemmas.{phase-at}
use Rattle.sip_machine.proofs.pool.Pool.is_at_rest.Goals as goal

-- where the phases differ, the state is not the one at rest in the phase
pub returns-else-eq : goal.returns-else-eq
returns-else-eq g c = λ d.
    let is = phase-at _ _ _ c.args.at c.index.result.now d c.self.view_is c.requires c.index.ensures in
    let same = g.met.P.Eq.laws.refl c.args.phase in
    grind (arith, nat_tests)
