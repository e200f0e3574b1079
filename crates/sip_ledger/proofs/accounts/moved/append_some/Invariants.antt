use Rattle.sip_ledger.proofs.Lemmas.{AreAppended, take}
use Rattle.sip_ledger.proofs.accounts.moved.append_some.Given as goal

-- the strikes before the index are written, but for those that strike nothing that is left
abbrev pub invariant-loop-at : goal.invariant-loop-at
invariant-loop-at l = AreAppended l.gains l.place (take l.at l.strikes) l.fn.kept.items l.kept.items
