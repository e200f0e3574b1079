use Rattle.sip_machine.specs.NumberedEvent.{event_in}
use Rattle.sip_standard.specs.InviteServer as server
use Rattle.sip_phases.specs.inner.InviteServer.{invite_server_seen}
use Rattle.sip_machine.proofs.rules.Rows3261.{within-one}
use Rattle.sip_machine.proofs.invite_server_3261.InviteServer3261Phases.receives.Goals as goal

-- after a 2xx the figure has rows of its own
pub returns-in-Passed : goal.returns-in-Passed
returns-in-Passed c = rw c.in-Passed.is (c.invited_again.ensures c.args.self.now c.args.book.now)

-- before a 2xx the rows are those of the corrected machine
pub returns-in_ok-received-in-In : goal.returns-in_ok-received-in-In
returns-in_ok-received-in-In c =
    let texts = c.args.book.now in
    let e = c.args.event.now in
    rw (c.in-In.is, c.within.ensures)
    (within-one texts (server.Receives c.args.self.now (invite_server_seen texts c.in-In.phase) e.kind (event_in texts e)) c.in-In.again c.in_ok-received-in-In.received
    (rw c.self.view_is at c.in_ok-received-in-In.ensures))
