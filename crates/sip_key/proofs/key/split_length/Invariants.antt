use Rattle.std.proofs.Common.{◌≡◌, ◌+◌, length}
use Rattle.sip_key.specs.inner.KeyText.{after_length, length_in}
use Rattle.sip_key.proofs.key.split_length.Given as goal

-- what was counted and what is left give the length, and the same stands after it
abbrev pub invariant-loop-first : goal.invariant-loop-first
invariant-loop-first l = (l.count + length_in l.left ≡ length_in l.text) × (after_length l.left ≡ after_length l.text)

-- each turn of the loop takes one byte
abbrev pub decreases-loop-first : goal.decreases-loop-first
decreases-loop-first l = length l.left
