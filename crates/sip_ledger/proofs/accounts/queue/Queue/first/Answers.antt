use Rattle.sip_ledger.proofs.Lemmas.{least-held}
use Rattle.sip_ledger.proofs.accounts.queue.Queue.first.Goals as goal

-- no place is before that of the first pair
pub returns-in-Some-clause-least : goal.returns-in-Some-clause-least
returns-in-Some-clause-least c = rw (← c.self.view_is) (least-held c.self.inside.pairs c.in-Some.pair.now c.in-Some.ensures.least)
