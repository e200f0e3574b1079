-- The words of what the code names by numbers of a book.
use Rattle.std.specs.Prelude.{ℕ, List}
use Rattle.std.specs.List.{flat_map}
use Rattle.sip_ledger.specs.declared.debt.Debt.{Debt}
use Rattle.sip_standard.specs.StateText.{owed_field}

-- the text of debts that the code holds, one after another
abbrev pub debts_fields : List Debt → List ℕ
debts_fields debts = flat_map (λ debt. owed_field debt.message debt.deadline debt.must) debts
