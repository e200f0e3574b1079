use Rattle.sip_ledger.proofs.Lemmas.{range-first, range-none}
use Rattle.sip_ledger.proofs.accounts.places.Places.first_from.Goals as goal

-- the first pair in the range is the first from there on
pub returns-in-Some-clause-first : goal.returns-in-Some-clause-first
returns-in-Some-clause-first c = rw (← c.self.view_is)
    (range-first c.self.inside.pairs c.args.message c.args.place c.in-Some.pair.now c.next.new.self (rw c.in-Some.ensures.steps at (c.range.ensures.in_range tt)))

-- where the range is empty, no pair is there from there on
pub returns-in-None-clause-none : goal.returns-in-None-clause-none
returns-in-None-clause-none c = rw (← c.self.view_is) (range-none c.self.inside.pairs c.args.message c.args.place (rw c.in-None.ensures.steps.0 at (c.range.ensures.in_range tt)))
