use Rattle.sip_ledger.proofs.Lemmas.{arith, held_updated, nat_tests, queues-later, queues-none, true}
use Rattle.sip_ledger.proofs.accounts.places.Places.put.Goals as goal

-- the message and the place of the new pair are in the sets, and the queues are right still, or there are none
pub invariant_of-self-2 : goal.invariant_of-self-2
invariant_of-self-2 c =
    let held = held_updated c.self.inside.pairs c.insert.new.self c.args.message c.args.place true c.in_ok-_added.ensures.updates in
    grind (arith, nat_tests, held, queues-later, queues-none)

-- there is this pair of a message and a place besides, and no other new one
pub returns-clause-ok : goal.returns-clause-ok
returns-clause-ok c =
    let held = held_updated c.self.inside.pairs c.insert.new.self c.args.message c.args.place true c.in_ok-_added.ensures.updates in
    grind (arith, held)
