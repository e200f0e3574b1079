-- The debts of the code, whose messages are numbers of a book.
use Rattle.std.specs.Prelude.{ℕ, ◌<◌, ◌^◌, List, All, map}
pub use Rattle.sip_ledger.specs.Accounts.{owed_in}
use Rattle.sip_ledger.specs.declared.debt.Debt.{Debt}
use Rattle.sip_phases.specs.Texts.{Texts, text_of}
use Rattle.sip_standard.specs.Debts.{Owed}

-- the message owed that a debt of the code stands for beside a book
abbrev pub owed_seen : Texts → Debt → Owed
owed_seen texts debt = record { message = text_of texts debt.message; deadline = debt.deadline; must = debt.must }

-- what the debts of the code stand for beside a book
abbrev pub owes_seen : Texts → List Debt → List Owed
owes_seen texts debts = map (owed_seen texts) debts

-- the numbers of the messages of debts
abbrev pub owes_names : List Debt → List ℕ
owes_names debts = map (λ debt. debt.message) debts

-- the deadlines of the debts are below 2^50, so that no sum wraps
abbrev pub OwesInRange : List Debt → Type 0
OwesInRange debts = All (λ debt. debt.deadline < 2 ^ 50) debts
