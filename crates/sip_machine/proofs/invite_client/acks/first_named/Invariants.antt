use Rattle.sip_machine.proofs.Words.{take}
use Rattle.sip_machine.proofs.acks.HolderLemmas.{AreWith}
use Rattle.sip_machine.proofs.invite_client.acks.first_named.Given as goal

-- of the messages so far those with the To are in the set, and no others
abbrev pub invariant-loop-message : goal.invariant-loop-message
invariant-loop-message l = AreWith l.book l.to l.moment l.those (take l.message-index l.message-items)
