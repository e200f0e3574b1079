use Rattle.std.specs.Prelude.{true}
use Rattle.std.proofs.Common.{inr, arith}
use Rattle.sip_standard.specs.declared.kind.Kind.TheVariants.{Response}
use Rattle.sip_phases.specs.declared.invite_client.InviteClientPhase.TheVariants as code
use Rattle.sip_machine.specs.Texts.{text_of}
use Rattle.sip_machine.specs.NumberedEvent.{event_in}
use Rattle.sip_phases.specs.inner.Waiting.{waiting_seen}
use Rattle.sip_standard.specs.InviteClient.{Calling, Proceeding, Completed, Receives}
use Rattle.sip_phases.specs.inner.InviteClient.{invite_client_seen, invite_client_names, InviteClientInRange}
use Rattle.sip_machine.proofs.steps.RepliesLemmas.{Gains-one}
use Rattle.sip_machine.proofs.invite_client.InviteClientPhases.receives.Goals as goal
use Rattle.sip_machine.proofs.invite_client.InviteClientPhases.receives.Goals.{in-Calling, in-Proceeding, in-Completed}

-- a final response of 300 to 699 leads to completed, where an ACK for it must be sent
pub returns-then-is_unsuccessful : goal.returns-then-is_unsuccessful
returns-then-is_unsuccessful c =
    let texts = c.args._book.now in
    let n = c.args.event.now in
    let row = Receives c.args.self.now in
    let k = Response c.in-Response.code in
    let gains = Gains-one invite_client_names InviteClientInRange invite_client_seen texts in
    let unsuccessful = c.is_unsuccessful.ensures.0 c.if-is_unsuccessful.true in
    -- in calling, in proceeding and in completed the row leads to completed and owes the ACK
    elim c.match-phase.branch [
      -- in calling, whose data is s: of the three rows of a response, the last is that of 300 to 699
      | in-Calling w ↦
          let s = w.in-Calling in
          rw (w.phase-is, s.is, ← c.in-Response.ensures, c.moment-set.ensures, c.number.ensures)
          (gains (row (Calling (waiting_seen texts s.waiting)) k (event_in texts n)) (code.Completed s.waiting.reliable s.waiting.request n.moment) true n.number
          (λ y. (λ h. grind (arith, unsuccessful), λ e. inr (inr (unsuccessful, e)))) (rw s.is at c.requires.known) c.requires.fits.keeps c.requires.fits.limit)
      -- in proceeding, whose data is s, it is the last row too
      | in-Proceeding w ↦
          let s = w.in-Proceeding in
          rw (w.phase-is, s.is, ← c.in-Response.ensures, c.moment-set.ensures, c.number.ensures)
          (gains (row (Proceeding s.reliable (text_of texts s.request) s.cancel) k (event_in texts n)) (code.Completed s.reliable s.request n.moment) true n.number
          (λ y. (λ h. grind (arith, unsuccessful), λ e. inr (unsuccessful, e))) (rw s.is at c.requires.known) c.requires.fits.keeps c.requires.fits.limit)
      -- in completed the ACK is owed once more
      | in-Completed w ↦
          let s = w.in-Completed in
          rw (w.phase-is, s.is, ← c.in-Response.ensures, c.number.ensures)
          (gains (row (Completed s.reliable (text_of texts s.request) s.set) k (event_in texts n)) (code.Completed s.reliable s.request s.set) true n.number
          (λ y. (λ h. h.1, λ e. (unsuccessful, e))) (rw s.is at c.requires.known) c.requires.fits.keeps (rw s.is at c.requires.in_range))
    ]
