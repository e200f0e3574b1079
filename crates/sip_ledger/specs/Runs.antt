use Rattle.std.specs.Prelude.{◌≡◌, ◌≢◌, ◌<◌, ◌+◌, ℕ, List, All, flat_map, get_or, length, replicate}
use Rattle.sip_ledger.specs.declared.debt.Debt.{Debt}
use Rattle.sip_ledger.specs.declared.run.Run.{Run}

-- Debts in runs of equal ones.

-- the debts of some runs, one after another
abbrev pub debts_in : List Run → List Debt
debts_in runs = flat_map (λ run. replicate run.count run.debt) runs

-- these debts stand in these runs: each run has at least one, and no two runs side by side are of the same debt
pub record AreRuns (debts : List Debt) (runs : List Run) : Type 0 where
  pub whole : debts_in runs ≡ debts
  pub filled : All (λ run. 0 < run.count) runs
  pub apart : (at : ℕ) (run : Run) → at + 1 < length runs → (get_or runs at run).debt ≢ (get_or runs (at + 1) run).debt
