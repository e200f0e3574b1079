use Rattle.std.specs.Prelude.{refl}
use Rattle.sip_message.specs.ValueParts.{start_parts}
use Rattle.sip_machine.proofs.steps.ProvisionalLemmas.{IsStatus100-code}
use Rattle.sip_machine.proofs.provisional.is_status_100.Goals as goal

-- the start line is a status line, and its code is compared with 100
pub returns-in-Status : goal.returns-in-Status
returns-in-Status c = IsStatus100-code (start_parts c.args.start) c.in-Status.code c.in-Status.reason.now (rw c.in-Status.is refl)
