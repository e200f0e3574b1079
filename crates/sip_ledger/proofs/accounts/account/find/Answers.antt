use Rattle.sip_ledger.proofs.Lemmas.{arith, before-start, first-payable, owed-within, sought-at, sought-late, sought-struck, ◌+◌}
use Rattle.sip_ledger.proofs.accounts.account.find.Goals as goal

-- no place was looked at yet
pub loop-place-init : goal.loop-place-init
loop-place-init c = grind (arith, before-start)

-- the place is past the end of the account, so none of its debts is paid
pub returns-then-account-place-clause-none : goal.returns-then-account-place-clause-none
returns-then-account-place-clause-none c = λ k owed.
    let at = sought-at c.loop-place.invariant.0 c.in-Some.place c.in-Some.ensures.next.order c.in-Some.ensures.next.before in
    at.before k (omega (arith, owed-within c.args.gains.now c.args.strikes.now c.args.account k owed)) owed

-- where the place is struck, nothing up to the end of that strike pays, and the search goes on from there
pub loop-place-preserved-in-Some-struck_to : goal.loop-place-preserved-in-Some-struck_to
loop-place-preserved-in-Some-struck_to c =
    let some = rw c.own-own.ensures at c.in-Some-struck_to.ensures.some in
    (sought-struck (sought-at c.loop-place.invariant.0 c.in-Some.place c.in-Some.ensures.next.order c.in-Some.ensures.next.before) c.in-Some-struck_to.to some.0 some.1, c.next.ensures.seek)

-- the place is owed and in time, and no place before it pays, so it is the first
pub returns-then-moment-entry-clause-found : goal.returns-then-moment-entry-clause-found
returns-then-moment-entry-clause-found c =
    let left = c.in-Some.ensures.next.left in
    first-payable (sought-at c.loop-place.invariant.0 c.in-Some.place c.in-Some.ensures.next.order c.in-Some.ensures.next.before) c.if-account-place.false
    (c.requires.gained.messages c.args.message c.in-Some.place left).1 left (rw c.own-own.ensures at c.in-None.ensures.none) (rw c.entry.ensures at c.if-moment-entry.true)

-- where no place with the message is left, none of the account pays
pub returns-clause-none : goal.returns-clause-none
returns-clause-none c = λ k owed.
    let at = sought-at c.loop-place.invariant.0 (c.loop-place.from + (k + 1)) (omega arith) (λ j low high. c.in_default.ensures.next.none j low) in at.before k (omega arith) owed

-- the deadline of the place is past, so no place up to it pays
pub loop-place-preserved : goal.loop-place-preserved
loop-place-preserved c =
    (sought-late (sought-at c.loop-place.invariant.0 c.in-Some.place c.in-Some.ensures.next.order c.in-Some.ensures.next.before) (rw c.entry.ensures at c.if-moment-entry.false), c.next.ensures.seek)
