use Rattle.sip_ledger.proofs.Lemmas.{IsSettled, numbers_of}
use Rattle.sip_ledger.proofs.accounts.places.Places.head.Given as goal

-- all of the messages that are left stand in the queue
abbrev pub invariant-loop-turn : goal.invariant-loop-turn
invariant-loop-turn l = IsSettled l.self l.fn.queue (numbers_of l.messages) l.queue
