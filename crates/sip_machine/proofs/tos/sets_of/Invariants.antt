use Rattle.sip_machine.proofs.Words.{take, AreUnder}
use Rattle.sip_machine.proofs.tos.sets_of.Given as goal

-- the numbers of the Tos before the index stand under their Tos
abbrev pub invariant-loop-at : goal.invariant-loop-at
invariant-loop-at l = AreUnder (take l.at l.list) l.sets
