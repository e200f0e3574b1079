use Rattle.sip_ledger.proofs.Lemmas.{false, take_more}
use Rattle.sip_ledger.proofs.run.runs_of.Goals as goal

-- one debt more stands in the runs
pub loop-debt-preserved : goal.loop-debt-preserved
loop-debt-preserved c =
    rw (take_more c.args.debts.now c.loop-debt.debt-index (record { message = 0; deadline = 0; must = false }) c.loop-debt-test.true) (c.in_ok-append.ensures _ c.loop-debt.invariant)
