use Rattle.sip_machine.proofs.Words.{IsSought, one_past}
use Rattle.sip_machine.proofs.pool.Pool.is_repeat.Given as goal

-- no row from some limit on has an equal state, and `next` is the last row before it with the print of the state
abbrev pub invariant-loop-next : goal.invariant-loop-next
invariant-loop-next g l = IsSought l.self l.rows l.slots.prints l.print l.at l.next

-- each turn of the loop goes to an earlier row
abbrev pub decreases-loop-next : goal.decreases-loop-next
decreases-loop-next g l = one_past l.next
