use Rattle.sip_ledger.proofs.Lemmas.{false, holds, ℕ, ◌<◌, ◌≡◌, ◌≤◌}
use Rattle.sip_ledger.proofs.accounts.strikes.reaches.Given as goal

-- none of the gains from the end of the strike up to the index is of its message
abbrev pub invariant-loop-at : goal.invariant-loop-at
invariant-loop-at l = (k : ℕ) → l.strike.to ≤ k → k < l.at → holds l.gains.messages l.strike.message k ≡ false
