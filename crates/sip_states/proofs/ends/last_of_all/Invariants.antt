use Rattle.std.proofs.Common.{take}
use Rattle.sip_states.proofs.runs.Reaching.{IsLastSoFar}
use Rattle.sip_states.proofs.ends.last_of_all.Given as goal

-- `last` is the latest moment to which one of the states so far can wait
abbrev pub invariant-loop-at : goal.invariant-loop-at
invariant-loop-at g l = IsLastSoFar (g.M.Machine.end_window l.machine) (g.M.Machine.until l.machine) l.from (take l.at l.pool) l.last
