use Rattle.sip_ledger.proofs.Lemmas.{account_debts, arith, length-map, gained-grown, gained-more, gained-over}
use Rattle.sip_ledger.proofs.accounts.each.gain_some.Goals as goal

-- where memory is refused, the accounts are as right as before
pub returns-in_err-grown-clause-accounts : goal.returns-in_err-grown-clause-accounts
returns-in_err-grown-clause-accounts c =
    (gained-grown c.gained.new.strikes.items c.gained.ensures.kept (gained-over c.place_for.new.gains c.place_for.ensures.kept c.place_for.ensures.gained c.loop-row.invariant.gained)).accounts

-- after one row more, the rows up to it have gained the debt
pub loop-row-preserved : goal.loop-row-preserved
loop-row-preserved c =
    let was = c.loop-row.invariant in
    let all = length-map c.args.rows.now.items (account_debts c.args.gains.now c.args.strikes.now.items) in
    let low = was.low in
    -- the row has gained the debt, and the rows before it have it still
    record {
      low = omega (arith, low);
      near = c.in_ok-place.ensures.next.gain;
      gained = gained-more c.gained.new.strikes.items c.index-account.result.now c.in_ok-grown.grown c.gained.ensures.kept
          (gained-over c.place_for.new.gains c.place_for.ensures.kept c.place_for.ensures.gained was.gained) was.low (omega (arith, all)) c.index-account.ensures c.in_ok-grown.ensures.account c.in_ok-grown.ensures.debts;
    }
