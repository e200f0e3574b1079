use Rattle.sip_machine.proofs.Words.{◌≤◌, ◌-◌, length}
use Rattle.sip_machine.proofs.pools.FirstLemmas.{AreMixed}
use Rattle.sip_machine.proofs.pool.Pool.prints.Given as goal

-- the prints of the states before the index are mixed with the hashes of their phases; `hash_input` is what a phase feeds to a hasher
abbrev pub invariant-loop-at : goal.invariant-loop-at
invariant-loop-at g l =
    (l.from ≤ l.at) × (l.at ≤ length l.self)
    × AreMixed g.P.Hash.hash_input l.self-inside.phases.items l.from l.initial.prints.items l.prints.items (l.at - l.from)

-- each turn of the loop takes some more of the states
abbrev pub decreases-loop-at : goal.decreases-loop-at
decreases-loop-at g l = length l.self - l.at
