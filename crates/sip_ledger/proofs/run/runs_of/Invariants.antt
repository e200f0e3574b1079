use Rattle.sip_ledger.proofs.Lemmas.{AreRuns, take}
use Rattle.sip_ledger.proofs.run.runs_of.Given as goal

-- the runs are those of the debts so far
abbrev pub invariant-loop-debt : goal.invariant-loop-debt
invariant-loop-debt l = AreRuns (take l.debt-index l.debts) l.runs.items
