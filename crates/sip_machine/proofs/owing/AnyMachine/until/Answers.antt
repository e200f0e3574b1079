use Rattle.std.specs.Prelude.{◌<◌}
use Rattle.std.proofs.Common.{sym, subst, arith}
use Rattle.sip_machine.specs.Owing.{OwingInRange}
use Rattle.sip_machine.proofs.pools.PoolLemmas.{holds-here, in-phases, in-rows, state-here}
use Rattle.sip_machine.proofs.owing.AnyMachine.until.Goals as goal

-- the index is one of the phases
pub index-requires : goal.index-requires
index-requires g c =
    subst (λ n. c.args.at < n) (sym c.pool.inside.phases.ok.0) (in-phases c.pool.inside.phases.items c.pool.inside.dues c.args.pool.now c.args.at c.pool.view_is c.requires.at)

-- the index is one of the rows that owe
pub until-requires-clause-row : goal.until-requires-clause-row
until-requires-clause-row g c = in-rows c.pool.inside.phases.items c.pool.inside.dues c.args.pool.now c.args.at c.pool.view_is c.pool.invariant c.requires.at

-- the moments of the state are in range
pub until-requires-clause-in_range : goal.until-requires-clause-in_range
until-requires-clause-in_range g c =
    holds-here (OwingInRange g.M.Phases.in_range) c.pool.inside.phases.items c.pool.inside.dues c.args.pool.now c.args.at c.index.result.now c.pool.view_is c.requires.at c.index.ensures c.requires.in_range

-- the last moment of the phase and the row is that of the state
pub returns : goal.returns
returns g c = grind (arith, state-here)
