use Rattle.std.proofs.Common.{◌-◌, ◌≤◌, length}
use Rattle.sip_masks.specs.Marks.{is_plain}
use Rattle.sip_masks.proofs.RunLemmas.{Passes}
use Rattle.sip_masks.proofs.masks.Masks.long_run.Given as goal

-- all bytes from `p` up to `q` are plain
abbrev pub invariant-loop-self : goal.invariant-loop-self
invariant-loop-self l = (l.p ≤ l.q) × (l.q ≤ length l.self-inside.text.now) × Passes is_plain l.self-inside.text.now l.p l.q

-- each turn of the loop goes on by a word, and the text ends
abbrev pub decreases-loop-self : goal.decreases-loop-self
decreases-loop-self l = length l.self-inside.text.now - l.q
