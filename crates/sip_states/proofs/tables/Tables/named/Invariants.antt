use Rattle.std.proofs.Common.{take, []}
use Rattle.std.specs.List.{flat_map}
use Rattle.sip_machine.specs.Naming.{AppendsAll}
use Rattle.sip_states.proofs.due.AdvanceLemmas.{numbers_at}
use Rattle.sip_states.proofs.tables.Tables.named.Given as goal

-- the numbers are those that the marked sets so far name
abbrev pub invariant-loop-index : goal.invariant-loop-index
invariant-loop-index g l = AppendsAll (flat_map (numbers_at l.fn.self.sets) (take l.index-index l.index-items)) [] l.found.items
