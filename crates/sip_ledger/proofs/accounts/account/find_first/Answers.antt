use Rattle.sip_ledger.proofs.Lemmas.{arith, nat_tests, first-all, first-left, left-kept, newest-first, one-found, owed-left}
use Rattle.sip_ledger.proofs.accounts.account.find_first.Goals as goal

-- where nothing is left of messages from `from` on, what was found is the first of all
pub returns-in_default : goal.returns-in_default
returns-in_default c = first-left c.args.gains.now c.args.strikes.now c.args.account c.loop-step.first c.loop-step.invariant c.in_default.ensures.none

-- where nothing before the place has a greater message, what was found is the first of all
pub returns-then-is_newest : goal.returns-then-is_newest
returns-then-is_newest c =
    -- with the place that was found for this message the first of all up to it is known
    let more = one-found c.args.gains.now c.args.strikes.now c.args.account c.loop-step.first c.find-place.result c.loop-step.invariant c.in-Some.ensures.found c.find-place.ensures.found c.find-place.ensures.none in
    rw c.sooner-first.ensures (newest-first c.args.gains.now c.args.strikes.now c.args.account c.in-Some.message c.loop-step.first c.find-place.result c.requires.gained c.find-place.ensures.found (rw c.if-is_newest.true at c.is_newest.ensures) more)

-- where no gain that is kept has a greater message, what was found is the first of all
pub returns-then-gains-message : goal.returns-then-gains-message
returns-then-gains-message c =
    let g = c.args.gains.now in
    let a = c.args.account in
    let more = one-found g c.args.strikes.now a c.loop-step.first c.find-place.result c.loop-step.invariant c.in-Some.ensures.found c.find-place.ensures.found c.find-place.ensures.none in
    rw c.sooner-first.ensures (first-all g c.args.strikes.now a _ more (λ k early owed passes low.
    let high = c.requires.gained.highest k (left-kept g k c.requires.gained (owed-left g c.args.strikes.now a k owed)) in grind (arith, nat_tests)))

-- what was found so far is the first debt of the messages that are below the next one
pub loop-step-preserved : goal.loop-step-preserved
loop-step-preserved c =
    rw c.sooner-first.ensures (one-found c.args.gains.now c.args.strikes.now c.args.account c.loop-step.first c.find-place.result c.loop-step.invariant c.in-Some.ensures.found c.find-place.ensures.found c.find-place.ensures.none)
