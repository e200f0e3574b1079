use Rattle.sip_ledger.proofs.Lemmas.{◌≡◌, ◌≤◌}
use Rattle.sip_ledger.proofs.accounts.strikes.strike_too.Given as goal

-- no strike has been made longer yet
abbrev pub invariant-loop-at : goal.invariant-loop-at
invariant-loop-at l = (l.first ≤ l.at) × (l.strikes.items ≡ l.fn.strikes.items)
