use Rattle.std.specs.Prelude.{◌≤◌, ◌-◌, flat_map, length, take}
use Rattle.sip_machine.specs.Naming.{AppendsAll}
use Rattle.sip_machine.proofs.owing.name_phases.Given as goal

-- what the phases of the states before the index name is appended
abbrev pub invariant-loop-at : goal.invariant-loop-at
invariant-loop-at g l = (l.at ≤ length l.pool) × AppendsAll (flat_map (λ x. g.M.Phases.names x.phase) (take l.at l.pool)) l.fn.out.items l.out.items

-- each turn of the loop takes some more of the states
abbrev pub decreases-loop-at : goal.decreases-loop-at
decreases-loop-at g l = length l.pool - l.at
