use Rattle.sip_ledger.proofs.Lemmas.{filter, from_to, nat_lt, ◌++◌, ◌≡◌, ◌≤◌}
use Rattle.sip_ledger.proofs.accounts.strikes.copy_some.Given as goal

-- the strikes before the index are written, but for those that end at the start or before it
abbrev pub invariant-loop-at : goal.invariant-loop-at
invariant-loop-at l = (l.at ≤ l.last) × (l.strikes.items ≡ l.fn.strikes.items ++ filter (λ strike. nat_lt l.start strike.to) (from_to l.first l.at l.fn.strikes.items))
