use Rattle.std.proofs.Common.{sym, subst, ◌∙◌, true≢false}
use Rattle.sip_machine.specs.NumberedEvent.{event_in}
use Rattle.sip_standard.specs.Kind.{IsSuccess}
use Rattle.sip_machine.specs.inner.Turns.{turn_seen, turn_names, TurnInRange}
use Rattle.sip_standard.specs.InviteServer3261.{Sends}
use Rattle.sip_phases.specs.inner.InviteServer3261.{invite_server_3261_seen, invite_server_3261_names, InviteServer3261InRange}
use Rattle.sip_machine.specs.inner.Single.{AnswersOne}
use Rattle.sip_machine.proofs.rules.Rows3261.{sent-within}
use Rattle.sip_machine.proofs.invite_server_3261.InviteServer3261Phases.sends.Goals as goal

-- a 2xx is sent, which ends the transaction by RFC 3261
pub returns-then-is_success : goal.returns-then-is_success
returns-then-is_success c =
    let texts = c.args.book.now in
    let e = event_in texts c.args.event.now in
    subst (λ k. AnswersOne (turn_names invite_server_3261_names) (TurnInRange InviteServer3261InRange) (turn_seen invite_server_3261_seen) texts
    (Sends c.args.self.now (invite_server_3261_seen texts c.args.phase.now) k e) c.succeeds.result) c.in-Response.ensures
    (c.succeeds.ensures c.args.self.now texts c.in-Response.code e (c.is_success.ensures.0 c.if-is_success.true))

-- a response that is no success is sent as the corrected machine sends it
pub returns-in_ok-sent-in-In : goal.returns-in_ok-sent-in-In
returns-in_ok-sent-in-In c =
    let texts = c.args.book.now in
    let e = c.args.event.now in
    -- the code of the response is no success, since the test of it failed
    let other : ¬ (IsSuccess c.in-Response.code) = λ success. true≢false (sym (c.is_success.ensures.1 success) ∙ c.if-is_success.false) in
    rw (c.in-In.is, c.within.ensures)
    (sent-within c.args.self.now texts c.in-In.phase c.in-In.again c.in-Response.code e.kind (event_in texts e) c.in_ok-sent-in-In.sent c.in-Response.ensures other
    (rw c.self.view_is at c.in_ok-sent-in-In.ensures))
