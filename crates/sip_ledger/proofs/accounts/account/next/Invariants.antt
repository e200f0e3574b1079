use Rattle.sip_ledger.proofs.Lemmas.{false, owes_at, ℕ, ◌-◌, ◌<◌, ◌≡◌, ◌≤◌}
use Rattle.sip_ledger.proofs.accounts.account.next.Given as goal

-- the account owes nothing from `from` up to this place
abbrev pub invariant-loop-place : goal.invariant-loop-place
invariant-loop-place l = (l.from ≤ l.place) × ((k : ℕ) → l.from ≤ k → k < l.place → owes_at l.gains l.strikes l.account k ≡ false)

-- each turn of the loop goes to a later place, up to the end of the account
abbrev pub decreases-loop-place : goal.decreases-loop-place
decreases-loop-place l = l.account.end - l.place
