use Rattle.sip_machine.proofs.Words.{◌≡◌, ◌<◌, ◌-◌, ℕ, get_or, length, AreFirstOnes}
use Rattle.sip_machine.proofs.pool.Pool.first_by.Given as goal

-- the rows are the first of equal states before the index, and the slots have their prints
abbrev pub invariant-loop-at : goal.invariant-loop-at
invariant-loop-at g l =
    AreFirstOnes l.self l.from l.at l.rows.items
    × (length l.slots.prints ≡ length l.rows.items)
    × ((k : ℕ) → k < length l.rows.items → get_or l.slots.prints k 0 ≡ get_or l.prints (get_or l.rows.items k 0 - l.from) 0)
