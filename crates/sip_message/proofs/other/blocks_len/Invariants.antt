use Rattle.std.proofs.Common.{◌-◌, ◌≤◌, length}
use Rattle.sip_message.specs.inner.Values.{ArePlain}
use Rattle.sip_message.proofs.other.blocks_len.Given as goal

-- each byte of the text before the index is a byte of a value or a blank
abbrev pub invariant-loop-at : goal.invariant-loop-at
invariant-loop-at l = (l.at ≤ length l.text) × ArePlain l.text 0 l.at

-- each turn of the loop goes on in the text, and the text ends
abbrev pub decreases-loop-at : goal.decreases-loop-at
decreases-loop-at l = length l.text - l.at
