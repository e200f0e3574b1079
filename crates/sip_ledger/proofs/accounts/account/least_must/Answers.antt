use Rattle.sip_ledger.proofs.Lemmas.{arith, least-first, least-first_due, least-found, least-last, least-passed, sym, ◌∙◌}
use Rattle.sip_ledger.proofs.accounts.account.least_must.Goals.{then-owes+else-gains, else-owes}
use Rattle.sip_ledger.proofs.accounts.account.least_must.Goals as goal

-- before the first place that is looked at nothing has to be sent, so there is no least deadline yet
pub loop-place-init : goal.loop-place-init
loop-place-init c = least-first c.args.gains.now c.args.strikes.now c.args.account c.max-from.result (omega (arith, c.max-from.ensures)) (omega (arith, c.max-from.ensures))

-- where the place is past the account's end, the least so far is the least of all
pub returns-then-account-place : goal.returns-then-account-place
returns-then-account-place c =
    least-last c.args.gains.now c.args.strikes.now c.args.account c.in-Some.place c.loop-place.least c.loop-place.invariant c.in-Some.ensures.before c.if-account-place.true

-- the first gain that must be sent has the least deadline, where deadlines rise
pub returns-then-gains : goal.returns-then-gains
returns-then-gains c =
    let found = c.in-Some.ensures in
    least-first_due c.loop-place.invariant found.within.0 found.before c.requires.gained c.requires.account found.is (sym c.owes.ensures ∙ c.if-owes.true) (rw c.entry.ensures at c.earlier.ensures) c.if-gains.true

-- the least deadline so far is that of the debts up to here that must be sent
pub loop-place-preserved : goal.loop-place-preserved
loop-place-preserved c =
    let found = c.in-Some.ensures in
    elim c.if-owes.branch [
      -- a place that is owed and must be sent is counted in, and any other place is passed over
      | then-owes+else-gains w ↦ rw w.least-is (least-found c.loop-place.invariant found.within.0 found.before c.requires.account found.is (sym c.owes.ensures ∙ w.if-owes.true) (rw w.entry.ensures at w.earlier.ensures) w.if-gains.false)
      | else-owes w ↦ rw w.least-is (least-passed c.loop-place.invariant found.within.0 found.before (sym c.owes.ensures ∙ w.if-owes.false))
    ]

-- from the place on no gain must be sent, so the least so far is the least of all
pub returns : goal.returns
returns c = least-last c.args.gains.now c.args.strikes.now c.args.account c.args.account.end c.loop-place.least c.loop-place.invariant (λ k low high. c.in_default.ensures.none k low) (omega arith)
