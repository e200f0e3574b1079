use Rattle.sip_ledger.proofs.Lemmas.{Account, false, get_or, owes_at, ℕ, ◌<◌, ◌≡◌}
use Rattle.sip_ledger.proofs.accounts.left.is_owed.Given as goal

-- none of the rows before the index owes the gain at the place
abbrev pub invariant-loop-at : goal.invariant-loop-at
invariant-loop-at l = (k : ℕ) (a : Account) → k < l.at → owes_at l.gains l.strikes (get_or l.rows k a) l.place ≡ false
