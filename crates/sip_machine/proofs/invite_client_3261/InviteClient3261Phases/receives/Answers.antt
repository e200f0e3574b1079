use Rattle.std.proofs.Common.{true≢false, arith}
use Rattle.std.proofs.lemmas.Result.{IfOk-weaker}
use Rattle.sip_standard.specs.InviteClient as client
use Rattle.sip_standard.specs.InviteClient3261 as client_3261
use Rattle.sip_machine.proofs.rules.Rows3261.{other_row, AnswersOne-same}
use Rattle.sip_machine.proofs.invite_client_3261.InviteClient3261Phases.receives.Goals as goal

-- a 2xx ends the transaction, and any other message has the row of the corrected machine
pub returns : goal.returns
returns c = grind (arith, true≢false, IfOk-weaker, AnswersOne-same, other_row)
