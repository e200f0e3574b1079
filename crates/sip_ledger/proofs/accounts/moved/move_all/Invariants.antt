use Rattle.sip_ledger.proofs.Lemmas.{AreMoved, take}
use Rattle.sip_ledger.proofs.accounts.moved.move_all.Given as goal

-- the rows before the index are moved
abbrev pub invariant-loop-at : goal.invariant-loop-at
invariant-loop-at l = AreMoved l.gains l.strikes (take l.at l.rows) l.kept.items l.moved.items
