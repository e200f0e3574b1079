use Rattle.std.proofs.Common.{take}
use Rattle.std.specs.List.{Any}
use Rattle.sip_states.specs.Naming.{MayName}
use Rattle.sip_states.proofs.state_set.StateSet.may_name.Given as goal

-- no state so far may name the message
abbrev pub invariant-loop-at : goal.invariant-loop-at
invariant-loop-at g l = ¬ Any (MayName g.M.Phases.names l.number) (take l.at l.fn.self.states)
