use Rattle.std.proofs.Common.{not, ◌-◌, ◌≤◌, length}
use Rattle.sip_masks.specs.Marks.{is_control}
use Rattle.sip_masks.proofs.RunLemmas.{Passes}
use Rattle.sip_masks.proofs.masks.Masks.next_control.Given as goal

-- no byte from `p` up to `q` is a control
abbrev pub invariant-loop-self : goal.invariant-loop-self
invariant-loop-self l = (l.p ≤ l.q) × (l.q ≤ length l.self-inside.text.now) × Passes (λ b. not (is_control b)) l.self-inside.text.now l.p l.q

-- each turn of the loop goes on by a word, and the text ends
abbrev pub decreases-loop-self : goal.decreases-loop-self
decreases-loop-self l = length l.self-inside.text.now - l.q
