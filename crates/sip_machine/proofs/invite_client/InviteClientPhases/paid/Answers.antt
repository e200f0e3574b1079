use Rattle.sip_machine.proofs.invite_client.InviteClientPhases.paid.Goals as goal

-- in completed an ACK pays the debt that was found for it
pub returns-clause-finds : goal.returns-clause-finds
returns-clause-finds c = rw (c.in-Completed.is, ← c.in-Request-Ack.ensures, c.in-Request-Ack.field-0-is) c.first_acked.ensures.finds
