use Rattle.std.specs.Prelude.{◌≤◌, ℕ, List, [], All, replicate}
use Rattle.sip_ledger.specs.declared.debt.Debt.{Debt}
use Rattle.sip_machine.specs.declared.dues.Rows.{Rows}
use Rattle.sip_machine.specs.declared.dues.Rows.TheVariants.{Blank, WithAccounts}

-- What many states owe, with accounts or without.

-- so many rows, none of which owes anything
abbrev pub blank_rows : ℕ → List (List Debt)
blank_rows count = replicate count []

-- what each of the rows owes
abbrev pub rows_of : Rows → List (List Debt)
rows_of (Blank count) = blank_rows count
rows_of (WithAccounts boxed) = boxed.value

-- the numbers of the messages of these debts are from low up to high
abbrev pub AreBetween : ℕ → ℕ → List Debt → Type 0
AreBetween low high debts = All (λ debt. (low ≤ debt.message) × (debt.message ≤ high)) debts
