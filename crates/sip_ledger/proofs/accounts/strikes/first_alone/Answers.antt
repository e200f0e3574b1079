use Rattle.sip_ledger.proofs.Lemmas.{alone-more, alone-none, arith, nat_tests, none-struck, Strike, true≢false}
use Rattle.sip_ledger.proofs.accounts.strikes.first_alone.Goals.{then-others-at, else-others-at+else-ne}
use Rattle.sip_ledger.proofs.accounts.strikes.first_alone.Goals as goal

-- no strikes strike nothing
pub loop-at-init : goal.loop-at-init
loop-at-init c = grind (arith, nat_tests, none-struck, true≢false)

-- what one strike more strikes before the first such place, the others strike too (d stands for no strike)
pub loop-at-preserved : goal.loop-at-preserved
loop-at-preserved c =
    let d : Strike = record { message = 0; from = 0; to = 0 } in
    let more = alone-more c.args.gains.now c.args.strikes.now c.args.others.now c.loop-at.at c.args.from c.loop-at.first c.if-others-at.first d (omega arith) c.loop-at.invariant.2 in
    elim c.if-others-at.branch [ then-others-at w ↦ grind (arith, more) | else-others-at+else-ne w ↦ grind (arith, more, alone-none c.args.gains.now c.args.others.now c.loop-at.at c.args.from c.loop-at.first d) ]
