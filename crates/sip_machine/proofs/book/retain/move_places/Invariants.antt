use Rattle.sip_machine.specs.inner.Order.{texts_of}
use Rattle.sip_machine.specs.inner.Retain.{moved}
use Rattle.sip_machine.proofs.texts.RetainLemmas.{MovesInPlace}
use Rattle.sip_machine.proofs.book.retain.move_places.Given as goal

-- of the first `i` places, those whose messages are kept stand at the front, moved
abbrev pub invariant-loop-i : goal.invariant-loop-i
invariant-loop-i l = MovesInPlace (moved (texts_of l.kept) l.numbers) l.initial.places.items l.places.items l.left l.i
