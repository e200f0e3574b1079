use Rattle.std.proofs.Common.{refl, subst}
use Rattle.std.specs.Prelude.{codes}
use Rattle.sip_text.specs.inner.Case.{SameText}
use Rattle.sip_message.specs.inner.StartLine.{CodeFront}
use Rattle.sip_message.proofs.lemmas.front.Cuts.{ReadAs}
use Rattle.sip_message.proofs.lemmas.start_line.Reading.{status-read}
use Rattle.sip_message.proofs.PlainStartLemmas.{reason-open}
use Rattle.sip_message.proofs.plain_start.open_status.Goals as goal

-- a line with the protocol, a code and a reason is a status line
pub returns : goal.returns
returns c =
    -- the version and its SP, the code and the reason were each read or tested
    let line = c.args.line.now in
    let code = c.in_ok-code.code in
    let reason = c.in_ok-code.reason.now in
    let front = subst (λ t. ReadAs (CodeFront t) (code, reason)) c.split_at.ensures.back c.in_ok-code.ensures in
    (status-read line code reason (subst (λ t. SameText t (codes "SIP/2.0 ")) c.split_at.ensures.front (c.if-not-same_text.ensures.0 refl)) front (reason-open line reason code c.requires front.0)).0
