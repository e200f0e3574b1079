use Rattle.sip_machine.proofs.texts.RetainLemmas.{KeepsInPlace}
use Rattle.sip_machine.proofs.book.retain.keep_only.Given as goal

-- of the first `i` messages, those that are among the numbers stand at the front, in their order
abbrev pub invariant-loop-i : goal.invariant-loop-i
invariant-loop-i l = KeepsInPlace (λ k. (k.number, k.bytes.items)) l.numbers l.initial.kept.items l.kept.items l.left l.i
