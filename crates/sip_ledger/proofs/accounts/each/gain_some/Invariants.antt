use Rattle.sip_ledger.proofs.Lemmas.{accounts_debts, HaveGained, IfSome, IsGainAt, ◌≤◌}
use Rattle.sip_ledger.proofs.accounts.each.gain_some.Given as goal

-- the rows before the index owe one debt more, and the last of them gained it at the place
abbrev pub invariant-loop-row : goal.invariant-loop-row
invariant-loop-row l = record {
  low : l.from ≤ l.row;
  near : IfSome l.near (IsGainAt l.gains l.debt);
  gained : HaveGained l.debt l.from l.row (accounts_debts l.fn.gains l.fn.strikes.items l.fn.rows.items) l.gains l.strikes.items l.rows.items;
}
