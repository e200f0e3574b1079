use Rattle.sip_ledger.proofs.Lemmas.{false, is_struck, take, ◌≡◌}
use Rattle.sip_ledger.proofs.accounts.strikes.struck_to.Given as goal

-- none of the strikes before the index strikes the message at the place
abbrev pub invariant-loop-strike : goal.invariant-loop-strike
invariant-loop-strike l = is_struck (take l.strike-index l.strikes) l.message l.place ≡ false
