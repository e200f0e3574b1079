use Rattle.std.proofs.Common.{◌≡◌, ℕ, ◌+◌, ◌-◌, ◌<◌, ◌≤◌, length, get_or}
use Rattle.sip_masks.proofs.block.tail.Given as goal

-- the first `i` bytes of the block are those of the text from `at` on, and the others are 0
abbrev pub invariant-loop-i : goal.invariant-loop-i
invariant-loop-i l =
    (length l.last ≡ 64) × (l.at + l.i ≤ length l.text) × ((k : ℕ) → k < l.i → get_or l.last k 0 ≡ get_or l.text (l.at + k) 0) × ((k : ℕ) → l.i ≤ k → k < 64 → get_or l.last k 0 ≡ 0)

-- each turn of the loop writes one of the 64 bytes
abbrev pub decreases-loop-i : goal.decreases-loop-i
decreases-loop-i l = 64 - l.i
