use Rattle.sip_ledger.proofs.Lemmas.{Account, account_debts, false, get_or, IsSeek, owes_message, ℕ, ◌<◌, ◌≡◌}
use Rattle.sip_ledger.proofs.accounts.named.is_named.Given as goal

-- none of the rows so far owes the message, and what `seek` knows is right
abbrev pub invariant-loop-at : goal.invariant-loop-at
invariant-loop-at l = IsSeek l.gains l.message l.seek
    × ((k : ℕ) (a : Account) → k < l.at → owes_message l.message (account_debts l.gains l.strikes (get_or l.rows k a)) ≡ false)
