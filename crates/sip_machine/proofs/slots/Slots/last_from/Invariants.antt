use Rattle.std.proofs.Common.{◌≤◌, length, ℕ}
use Rattle.sip_machine.specs.inner.Slots.{IsNewest, IsReached, slot_of}
use Rattle.sip_machine.proofs.slots.Slots.last_from.Given as goal

-- the print one before `next`, if there is one, is of the slot of the print that is looked for, and none that was passed is equal to that one
abbrev pub invariant-loop-next : goal.invariant-loop-next
invariant-loop-next l =
    (l.next ≤ length l.self.prints)
    × ((limit : ℕ) → limit ≤ length l.self.prints → IsNewest (length l.self.newest) l.self.prints (slot_of (length l.self.newest) l.print) limit l.fn.newest →
    IsReached (length l.self.newest) l.self.prints l.print limit l.next)

-- each turn of the loop goes to an earlier print
abbrev pub decreases-loop-next : goal.decreases-loop-next
decreases-loop-next l = l.next
