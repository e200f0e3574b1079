use Rattle.sip_ledger.proofs.Lemmas.{Account, get_or, ℕ, ◌<◌, ◌≤◌}
use Rattle.sip_ledger.proofs.accounts.left.first_owed.Given as goal

-- none of the rows before the index owes anything before the place
abbrev pub invariant-loop-at : goal.invariant-loop-at
invariant-loop-at l = (l.first ≤ l.end)
    × ((k : ℕ) (a : Account) → k < l.at → (get_or l.rows k a).start < (get_or l.rows k a).end → l.first ≤ (get_or l.rows k a).start)
