use Rattle.sip_machine.proofs.Words.{◌≡◌, ◌<◌, ◌≤◌, ◌-◌, All, HoldsAt, from_to}
use Rattle.sip_machine.proofs.pool.Pool.run_end.Given as goal

-- the states from the first up to the end are in the phase of the first
abbrev pub invariant-loop-end : goal.invariant-loop-end
invariant-loop-end g l = (l.at < l.end) × (l.end ≤ l.limit) × HoldsAt (λ first. All (λ x. x.phase ≡ first.phase) (from_to l.at l.end l.self)) l.self l.at

-- each turn of the loop goes on by one state, up to `limit`
abbrev pub decreases-loop-end : goal.decreases-loop-end
decreases-loop-end g l = l.limit - l.end
