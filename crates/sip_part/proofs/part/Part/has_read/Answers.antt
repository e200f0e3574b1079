use Rattle.std.proofs.Common.{[], sym, ap, subst}
use Rattle.std.specs.Option.{option_copied}
use Rattle.sip_standard.specs.Via.{SaidVia}
use Rattle.sip_part.specs.Part.{TellsBranch, compared}
use Rattle.sip_part.proofs.Told.{read_told, fault_told}
use Rattle.sip_part.proofs.part.Part.has_read.Goals as goal

-- the branch of the message tells whether it falls into the part
pub returns-in-Ok : goal.returns-in-Ok
returns-in-Ok c =
    let text = c.args.bytes.now in
    let branch = option_copied c.top_via.result.branch in
    -- the message falls by the branch of its top Via, and the answer says so of this branch
    (compared branch, subst (TellsBranch text) (sym (ap (λ (v : SaidVia). compared v.branch) c.top_via.ensures)) (read_told text c.in-Ok.message c.in-Ok.ensures), c.has_compared.ensures)

-- what is no message counts as one without a branch
pub returns-in-Err-Fault : goal.returns-in-Err-Fault
returns-in-Err-Fault c =
    -- bytes with a fault, in which no branch stands plainly, fall by the empty one
    ([], fault_told c.args.bytes.now c.in-Err-Fault.field-0-0 c.requires (rw c.in-Err-Fault.field-0-is at c.in-Err-Fault.ensures), c.has_compared-in-Err-Fault.ensures)
