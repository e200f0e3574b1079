use Rattle.std.proofs.Common.{false, refl, sym, ◌∙◌, subst}
use Rattle.std.specs.Prelude.{codes}
use Rattle.std.proofs.lemmas.Bool.{both_ways}
use Rattle.sip_text.specs.inner.Case.{SameText}
use Rattle.sip_message.specs.inner.StartLine.{StatusLine, CodeFront, status_parts}
use Rattle.sip_message.proofs.lemmas.front.Cuts.{ReadAs, NotRead}
use Rattle.sip_message.proofs.lemmas.start_line.Reading.{status-no_version, status-no_code, status-no_reason, status-read}
use Rattle.sip_message.specs.inner.Only.{IsOnlyValue}
use Rattle.sip_message.proofs.start_line.read_status.Goals as goal

-- where the line does not begin with SIP/2.0 and SP, it is no status line
pub returns-then-not-same_text : goal.returns-then-not-same_text
returns-then-not-same_text c =
    -- the first eight bytes were compared with the version and its SP
    status-no_version c.args.line.now (λ same. both_ways false refl (c.if-not-same_text.ensures.1 (subst (λ t. SameText t (codes "SIP/2.0 ")) (sym c.split_at.ensures.front) same)))

-- where no code follows the protocol, the line is no status line
pub returns-in_err-code : goal.returns-in_err-code
returns-in_err-code c =
    subst (IsOnlyValue StatusLine status_parts c.args.line.now) (sym c.from_residual.ensures)
    -- the status code is looked for after the first eight bytes
    (status-no_code c.args.line.now (subst (λ t. NotRead (CodeFront t)) c.split_at.ensures.back c.in_err-code.ensures))

-- where a byte may not stand in a reason, the line is no status line
pub returns-then-not-are_reason_bytes : goal.returns-then-not-are_reason_bytes
returns-then-not-are_reason_bytes c =
    -- the status code is read, but a byte of the reason does not pass
    status-no_reason c.args.line.now c.in_ok-code.code c.in_ok-code.reason.now (subst (λ t. ReadAs (CodeFront t) (c.in_ok-code.code, c.in_ok-code.reason.now)) c.split_at.ensures.back c.in_ok-code.ensures)
    (sym c.are_reason_bytes.ensures ∙ c.if-not-are_reason_bytes.true)

-- the protocol, a code and a reason are a Status-Line
pub returns : goal.returns
returns c =
    status-read c.args.line.now c.in_ok-code.code c.in_ok-code.reason.now (subst (λ t. SameText t (codes "SIP/2.0 ")) c.split_at.ensures.front (c.if-not-same_text.ensures.0 refl))
    (subst (λ t. ReadAs (CodeFront t) (c.in_ok-code.code, c.in_ok-code.reason.now)) c.split_at.ensures.back c.in_ok-code.ensures) (sym c.are_reason_bytes.ensures ∙ c.if-not-are_reason_bytes.false)
