use Rattle.sip_ledger.proofs.Lemmas.{arith, cases_eq, nat_tests, ne_eqb, stands-more, stands-there}
use Rattle.sip_ledger.proofs.accounts.queue.Queue.put.Goals as goal

-- where memory was refused for the set, its messages stand in pairs as before
pub invariant_of-self-in_err-put : goal.invariant_of-self-in_err-put
invariant_of-self-in_err-put c = grind (arith, nat_tests, stands-more c.self.inside.pairs c.insert.new.self c.args.place c.args.message c.in_ok-_added.ensures.updates)

-- the new message stands in its pair
pub invariant_of-self-2 : goal.invariant_of-self-2
invariant_of-self-2 c =
    let more = stands-more c.self.inside.pairs c.insert.new.self c.args.place c.args.message c.in_ok-_added.ensures.updates in
    grind (arith, nat_tests, cases_eq, ne_eqb, more, stands-there c.self.inside.pairs c.insert.new.self c.args.place c.args.message c.in_ok-_added.ensures.updates)
