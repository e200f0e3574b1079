use Rattle.std.proofs.Common.{sym, subst}
use Rattle.sip_standard.specs.StartLine.{StartSays}
use Rattle.sip_message.specs.ValueParts.{start_parts}
use Rattle.sip_message.proofs.lemmas.start_line.Reading.{start-request, start-status, start-none}
use Rattle.sip_message.specs.inner.Only.{IsOnlyValue}
use Rattle.sip_message.proofs.start_line.read_start.Goals as goal

-- where the line is read as a request line, it is that start line
pub returns-in-Some : goal.returns-in-Some
returns-in-Some c = start-request c.args.line.now c.in-Some.method.now c.in-Some.uri.now c.in-Some.ensures

-- where the line is read neither as a request line nor as a status line, it is no start line
pub returns-in_err-code : goal.returns-in_err-code
returns-in_err-code c =
    subst (IsOnlyValue StartSays start_parts c.args.line.now) (sym c.from_residual.ensures)
    (start-none c.args.line.now c.in_default.ensures c.in_err-code.ensures)

-- where the line is read as a status line, it is that start line
pub returns : goal.returns
returns c = start-status c.args.line.now c.in_ok-code.code c.in_ok-code.reason.now c.in_ok-code.ensures
