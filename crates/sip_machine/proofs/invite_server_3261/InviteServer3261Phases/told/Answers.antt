use Rattle.std.proofs.Common.{arith}
use Rattle.sip_machine.proofs.rules.Rows3261.{messages-behind}
use Rattle.sip_machine.proofs.invite_server_3261.InviteServer3261Phases.told.Goals as goal

-- in a phase that remembers an earlier INVITE the words have one flag more, which names no message
pub returns-after-remembers-clause-names : goal.returns-after-remembers-clause-names
returns-after-remembers-clause-names c = grind (arith, messages-behind)
