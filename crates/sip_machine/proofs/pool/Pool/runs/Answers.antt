use Rattle.sip_machine.proofs.pools.PoolLemmas.{state-at}
use Rattle.sip_machine.proofs.pool.Pool.runs.Goals as goal

-- the runs of the row are those of what the state owes
pub returns : goal.returns
returns g c = λ d. rw (state-at c.self.inside.phases.items c.self.inside.dues c.args.self.now c.args.at d.phase d c.self.view_is c.requires) c.runs.ensures
