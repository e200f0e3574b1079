use Rattle.sip_ledger.proofs.Lemmas.{take, ◌≡◌}
use Rattle.sip_ledger.proofs.accounts.strikes.are_same.Given as goal

-- the strikes before the index are the same in both lists
abbrev pub invariant-loop-at : goal.invariant-loop-at
invariant-loop-at l = take l.at l.one ≡ take l.at l.other
