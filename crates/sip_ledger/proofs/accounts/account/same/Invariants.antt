use Rattle.sip_ledger.proofs.Lemmas.{AreAt, ◌-◌}
use Rattle.sip_ledger.proofs.accounts.account.same.Given as goal

-- both accounts owe the same before their places (AreAt), so that they owe the same exactly if what is left of them is the same
abbrev pub invariant-loop-at : goal.invariant-loop-at
invariant-loop-at l = AreAt l.gains l.strikes l.one l.other l.at l.beside

-- each turn of the loop goes to a later place, up to the end of the first account
abbrev pub decreases-loop-at : goal.decreases-loop-at
decreases-loop-at l = l.one.end - l.at
