use Rattle.std.proofs.Common.{◌≡◌, ◌*◌, ◌-◌, ◌≤◌, length}
use Rattle.sip_masks.specs.Marks.{is_control, is_other, BitsTell}
use Rattle.sip_masks.proofs.masks.mark.Given as goal

-- both masks are right for the words so far, and are as long as they were
abbrev pub invariant-loop-word : goal.invariant-loop-word
invariant-loop-word l =
    BitsTell is_other l.text l.other (64 * l.word) × BitsTell is_control l.text l.control (64 * l.word)
    × (64 * l.word ≤ length l.text) × (length l.other ≡ length l.initial.other) × (length l.control ≡ length l.initial.control)

-- each turn of the loop takes one word of 64 bytes
abbrev pub decreases-loop-word : goal.decreases-loop-word
decreases-loop-word l = length l.text - 64 * l.word
