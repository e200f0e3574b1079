use Rattle.sip_machine.specs.inner.Order.{texts_of}
use Rattle.sip_machine.specs.inner.Tos.{AreTos}
use Rattle.sip_machine.proofs.book.tos_of.Given as goal

-- the Tos so far are those of kept messages
abbrev pub invariant-loop-at : goal.invariant-loop-at
invariant-loop-at l = AreTos (texts_of l.kept) l.tos
