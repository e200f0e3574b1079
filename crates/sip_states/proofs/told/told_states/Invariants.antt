use Rattle.std.proofs.Common.{take}
use Rattle.sip_states.specs.Told.{AreToldAs}
use Rattle.sip_states.proofs.told.told_states.Given as goal

-- what is told so far says what the states so far mean, in their order
abbrev pub invariant-loop-at : goal.invariant-loop-at
invariant-loop-at g l = AreToldAs g.M.Phases.told g.M.Phases.seen g.M.Phases.names (take l.at l.fn.set.states) l.told.items
