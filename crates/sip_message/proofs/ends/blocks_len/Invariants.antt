use Rattle.std.proofs.Common.{◌-◌, ◌≤◌, length}
use Rattle.sip_message.specs.inner.Lines.{ArePaired}
use Rattle.sip_message.proofs.ends.blocks_len.Given as goal

-- in the blocks before the index a LF stands after each CR, and after no other byte
abbrev pub invariant-loop-at : goal.invariant-loop-at
invariant-loop-at l = (l.at ≤ length l.text) × ArePaired l.text 0 l.at

-- each turn of the loop goes on in the text, and the text ends
abbrev pub decreases-loop-at : goal.decreases-loop-at
decreases-loop-at l = length l.text - l.at
