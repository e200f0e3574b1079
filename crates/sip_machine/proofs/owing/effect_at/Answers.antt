use Rattle.std.specs.Prelude.{◌<◌}
use Rattle.std.proofs.Common.{sym, subst, arith}
use Rattle.sip_machine.specs.Rules.{Knows}
use Rattle.sip_machine.specs.Owing.{owing_names, OwingInRange}
use Rattle.sip_machine.proofs.pools.PoolLemmas.{holds-here, in-phases, in-rows, state-here}
use Rattle.sip_machine.proofs.owing.effect_at.Goals as goal

-- the index is one of the phases
pub index-requires : goal.index-requires
index-requires g c =
    subst (λ n. c.args.at < n) (sym c.pool.inside.phases.ok.0) (in-phases c.pool.inside.phases.items c.pool.inside.dues c.args.pool.now c.args.at c.pool.view_is c.requires.at)

-- the index is one of the rows that owe
pub effect_of-requires-clause-row : goal.effect_of-requires-clause-row
effect_of-requires-clause-row g c = in-rows c.pool.inside.phases.items c.pool.inside.dues c.args.pool.now c.args.at c.pool.view_is c.pool.invariant c.requires.at

-- the book keeps what the state names
pub effect_of-requires-clause-known : goal.effect_of-requires-clause-known
effect_of-requires-clause-known g c =
    holds-here (Knows (owing_names g.M.Phases.names) c.args.book.now) c.pool.inside.phases.items c.pool.inside.dues c.args.pool.now c.args.at c.index.result.now c.pool.view_is c.requires.at c.index.ensures c.requires.known

-- the moments of the state are in range
pub effect_of-requires-clause-in_range : goal.effect_of-requires-clause-in_range
effect_of-requires-clause-in_range g c =
    holds-here (OwingInRange g.M.Phases.in_range) c.pool.inside.phases.items c.pool.inside.dues c.args.pool.now c.args.at c.index.result.now c.pool.view_is c.requires.at c.index.ensures c.requires.in_range

-- the effect on the phase and the row is the effect on the state
pub returns-clause-gives : goal.returns-clause-gives
returns-clause-gives g c = grind (arith, state-here)
