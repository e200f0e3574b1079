use Rattle.std.proofs.Common.{◌≡◌, ◌+◌, map, take}
use Rattle.sip_states.proofs.tables.Tables.to_restart.Given as goal

-- the numbers are those of the indices so far, each one more than its index
abbrev pub invariant-loop-index : goal.invariant-loop-index
invariant-loop-index g l = l.numbers.items ≡ map (λ index. index + 1) (take l.index-index l.index-items)
