use Rattle.sip_ledger.proofs.Lemmas.{arith, queue-under, queues-changed, queues-inserted}
use Rattle.sip_ledger.proofs.accounts.places.Places.first_among.Goals as goal

-- the queue is put back, or there is none under the key
pub invariant_of-self-then-is_some : goal.invariant_of-self-then-is_some
invariant_of-self-then-is_some c = grind (arith, queue-under, queues-changed, queues-inserted)

-- what was under the key is a queue, so its first pair tells the first place of all
pub returns-clause-first : goal.returns-clause-first
returns-clause-first c =
    let was = queue-under _ c.remove.result c.remove.ensures.value c.self.invariant.1 in
    rw (← c.self.view_is) (c.in_ok-first.ensures.first c.self.inside.end (rw (c.unwrap_or-queue.ensures, c.new.ensures) was))
