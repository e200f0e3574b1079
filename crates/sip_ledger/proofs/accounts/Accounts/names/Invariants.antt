use Rattle.sip_ledger.proofs.Lemmas.{Debt, map, take, ◌++◌, ◌≡◌}
use Rattle.sip_ledger.proofs.accounts.Accounts.names.Given as goal

-- the messages of the debts so far were appended
abbrev pub invariant-loop-debt : goal.invariant-loop-debt
invariant-loop-debt l = l.numbers.items ≡ l.fn.numbers.items ++ map (λ (debt : Debt). debt.message) (take l.debt-index l.debt-items)
