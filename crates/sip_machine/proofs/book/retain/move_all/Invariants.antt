use Rattle.sip_machine.specs.inner.Order.{texts_of, most_places}
use Rattle.sip_machine.specs.inner.Retain.{moved}
use Rattle.sip_machine.proofs.texts.RetainLemmas.{MovesRuns}
use Rattle.sip_machine.proofs.book.retain.move_all.Given as goal

-- the places of the first `i` runs were moved
abbrev pub invariant-loop-i : goal.invariant-loop-i
invariant-loop-i l = MovesRuns (moved (texts_of l.kept) l.numbers) most_places l.initial.runs.items l.runs.items l.i
