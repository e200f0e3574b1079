use Rattle.sip_ledger.proofs.Lemmas.{accounts_debts, AreNamedTo, least_after, ◌-◌, ◌^◌}
use Rattle.sip_ledger.proofs.accounts.named.name_all.Given as goal

-- of the messages up to the last one those that rows owe are told, each once
abbrev pub invariant-loop-left : goal.invariant-loop-left
invariant-loop-left l = AreNamedTo (accounts_debts l.gains l.strikes l.rows) (least_after l.last) l.fn.numbers.items l.numbers.items

-- each turn of the loop goes to a greater number, and numbers have 64 bits
abbrev pub decreases-loop-left : goal.decreases-loop-left
decreases-loop-left l = 2 ^ 64 - least_after l.last
