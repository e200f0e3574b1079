use Rattle.sip_ledger.proofs.Lemmas.{alone-on, arith}
use Rattle.sip_ledger.proofs.accounts.strikes.struck_alone.Goals as goal

-- the next place of the message is past the end of the strike
pub returns-then-to-at-clause-before : goal.returns-then-to-at-clause-before
returns-then-to-at-clause-before c = alone-on c.args.gains.now c.args.strike c.args.others.now c.args.from c.loop-place.place c.in-Some.at c.args.end c.loop-place.invariant.1 c.in-Some.ensures.before (λ k low high inside. absurd (omega (arith, c.min-to.ensures, c.if-to-at.true, low, high, inside)))

-- up to the next place of the message nothing of it is left
pub returns-in_default-struck_to-clause-before : goal.returns-in_default-struck_to-clause-before
returns-in_default-struck_to-clause-before c = alone-on c.args.gains.now c.args.strike c.args.others.now c.args.from c.loop-place.place c.in-Some.at c.in-Some.at c.loop-place.invariant.1 c.in-Some.ensures.before (λ k low high inside. absurd (omega (arith, low, high)))

-- up to the end of their strike the others strike the message too
pub loop-place-preserved : goal.loop-place-preserved
loop-place-preserved c = (
  omega (arith, c.loop-place.invariant.0, c.in-Some.ensures.order, c.in-Some-struck_to.ensures.some.0),
  alone-on c.args.gains.now c.args.strike c.args.others.now c.args.from c.loop-place.place c.in-Some.at c.in-Some-struck_to.after c.loop-place.invariant.1 c.in-Some.ensures.before (λ k low high inside. c.in-Some-struck_to.ensures.some.1 k low high),
)

-- nothing of the message is left from the place on
pub returns-in_default-clause-before : goal.returns-in_default-clause-before
returns-in_default-clause-before c = alone-on c.args.gains.now c.args.strike c.args.others.now c.args.from c.loop-place.place c.args.end c.args.end c.loop-place.invariant.1 (λ k low high. c.in_default.ensures.none k low) (λ k low high inside. absurd (omega (arith, low, high)))

-- the strike ends before the place, or at it
pub returns-clause-before : goal.returns-clause-before
returns-clause-before c = alone-on c.args.gains.now c.args.strike c.args.others.now c.args.from c.loop-place.place c.loop-place.place c.args.end c.loop-place.invariant.1 (λ k low high. absurd (omega (arith, low, high))) (λ k low high inside. absurd (omega (arith, c.min-to.ensures, c.loop-place-test.false, low, high, inside)))
