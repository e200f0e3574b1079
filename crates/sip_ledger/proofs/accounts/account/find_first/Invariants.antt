use Rattle.sip_ledger.proofs.Lemmas.{entries_of, IsFirstTo, numbers_of, owes_at}
use Rattle.sip_ledger.proofs.accounts.account.find_first.Given as goal

-- `first` is the first place that a message below `from` pays, if there is one
abbrev pub invariant-loop-step : goal.invariant-loop-step
invariant-loop-step l = IsFirstTo (entries_of l.gains) (owes_at l.gains l.strikes l.account) (numbers_of l.messages) l.moment l.from l.first
