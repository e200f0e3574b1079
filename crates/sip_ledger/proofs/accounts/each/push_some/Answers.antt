-- `c.loop-row.invariant`: .0 and .1 say that the index is in range, .2 that `seek` is right, .3 what stands after the others for the rows so far.
use Rattle.sip_ledger.proofs.Lemmas.{account-there, account_debts, arith, length-map, inl, paid-grown, paid-next}
use Rattle.sip_ledger.proofs.accounts.each.push_some.Goals as goal

-- the row is an account
pub paid-requires-clause-account : goal.paid-requires-clause-account
paid-requires-clause-account c =
    let long = length-map c.args.rows.now.items (account_debts c.args.gains.now c.args.strikes.now.items) in
    (account-there c.loop-row.row c.index.result.now c.loop-row.invariant.3 (omega (arith, long, c.requires.to)) c.index.ensures).0

-- where memory is refused, the accounts are as right as before
pub returns-in_err-left-clause-accounts : goal.returns-in_err-left-clause-accounts
returns-in_err-left-clause-accounts c = (paid-grown c.paid.new.strikes.items c.paid.ensures.kept c.loop-row.invariant.3).accounts

-- where memory was refused, the rows are accounts over the strikes that were put besides
pub returns-in_err-push_left-clause-accounts : goal.returns-in_err-push_left-clause-accounts
returns-in_err-push_left-clause-accounts c =
    rw c.in_err-push_left.ensures.err (paid-grown c.paid.new.strikes.items c.paid.ensures.kept c.loop-row.invariant.3).accounts

-- after one row more, the rows up to it that can pay the message are pushed with it paid
pub loop-row-preserved : goal.loop-row-preserved
loop-row-preserved c =
    let long = length-map c.args.rows.now.items (account_debts c.args.gains.now c.args.strikes.now.items) in
    let low = c.loop-row.invariant.0 in
    -- the strikes that came in leave the rows before it as they were
    let at = account-there c.loop-row.row c.index.result.now c.loop-row.invariant.3 (omega (arith, long, c.requires.to)) c.index.ensures in
    let grown = paid-grown c.paid.new.strikes.items c.paid.ensures.kept c.loop-row.invariant.3 in
    let next = paid-next (account_debts c.args.gains.now c.loop-row.strikes.items c.index.result.now) c.in_ok-left.left grown c.in_ok-left.ensures.account c.in_ok-left.ensures.debts at.1 low (omega (arith, long, c.requires.to)) in
    (omega (arith, low), inl (omega arith), c.paid.ensures.seek, rw c.in_ok-push_left.ensures.ok next)
