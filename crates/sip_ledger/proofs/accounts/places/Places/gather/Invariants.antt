use Rattle.sip_ledger.proofs.Lemmas.{IsGathered, numbers_of}
use Rattle.sip_ledger.proofs.accounts.places.Places.gather.Given as goal

-- the messages below `from` stand in the queue
abbrev pub invariant-loop-turn : goal.invariant-loop-turn
invariant-loop-turn l = IsGathered l.self l.fn.queue (numbers_of l.messages) l.from l.queue
