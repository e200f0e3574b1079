use Rattle.sip_ledger.proofs.Lemmas.{arith, length, widened-run, ◌≡◌}
use Rattle.sip_ledger.proofs.run.append.Goals as goal

-- where the last run is of such debts, it becomes longer by this one
pub returns-then-ends_with : goal.returns-then-ends_with
returns-then-ends_with c debts are =
    let ends = rw c.deref.ensures.value at (c.ends_with.ensures.0 c.if-ends_with.true) in
    let size : c.len-last.result ≡ length c.args.runs.now.items = (let len = c.len-last.ensures in omega arith) in
    rw size (widened-run debts c.args.runs.now.items c.index_mut.result.now c.args.debt are ends (rw size at c.index_mut.ensures.value))
