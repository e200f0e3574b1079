use Rattle.std.specs.Prelude.{if◌then◌else◌, ◌≡◌, ◌<◌, ◌≤◌, ◌+◌, ℕ, Bool, false, List, [], ◌∷◌}
use Rattle.sip_ledger.specs.declared.debt.Debt.{Debt}
use Rattle.sip_ledger.specs.declared.debt.Entry.{Entry}

-- Debts of a list of entries: one test of the places tells which entries are owed, and another which of these must be sent.

-- the debt of an entry: it must be sent, or it may be
abbrev pub debt_of : Entry → Bool → Debt
debt_of entry must = record { message = entry.message; deadline = entry.deadline; must = must }

-- the debts of the entries that are owed, oldest first, where i is the place of the first of these entries
abbrev pub debts_from : (ℕ → Bool) → (ℕ → Bool) → ℕ → List Entry → List Debt
debts_from owed must i [] = []
debts_from owed must i (entry ∷ entries) =
    if owed i then debt_of entry (must i) ∷ debts_from owed must (i + 1) entries else debts_from owed must (i + 1) entries

-- nothing is owed at the places from i up to k
abbrev pub IsGap : (ℕ → Bool) → ℕ → ℕ → Type 0
IsGap owed i k = (j : ℕ) → i ≤ j → j < k → owed j ≡ false
