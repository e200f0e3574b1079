use Rattle.std.specs.Prelude.{if◌then◌else◌, ◌≡◌, ◌==◌, ◌&&◌, ◌||◌, ℕ, Bool, false, true, Option, None, Some, List, [], ◌∷◌, ◌≤◌, All, filter, map, min, nat_le}
use Rattle.std.specs.List.{reduce}
use Rattle.sip_standard.specs.Debts.{IsWithoutFirst}
use Rattle.sip_ledger.specs.declared.debt.Debt.{Debt}

-- What is owed: debts, of which the oldest is first.

-- the debt counts still at t: it must be sent, or may be sent until t or later
abbrev pub counts_at : ℕ → Debt → Bool
counts_at t debt = debt.must || nat_le t debt.deadline

-- the debt that may be sent until its deadline, and need not be any more
abbrev pub softened_debt : Debt → Debt
softened_debt debt = record { message = debt.message; deadline = debt.deadline; must = false }

-- a send of this message at t can pay the debt: the debt is of the message, and its deadline is not before t
abbrev pub is_payable : ℕ → ℕ → Debt → Bool
is_payable message t debt = debt.message == message && nat_le t debt.deadline

-- a send at t of a message that passes the test can pay the debt
abbrev pub PaysSome : (ℕ → Bool) → ℕ → Debt → Type 0
PaysSome test t debt = (test debt.message ≡ true) × (t ≤ debt.deadline)

-- what is owed after a send of this message at t, which pays the first debt that it can pay
abbrev pub paid_by : ℕ → ℕ → List Debt → List Debt
paid_by message t [] = []
paid_by message t (debt ∷ debts) = if is_payable message t debt then debts else debt ∷ paid_by message t debts

-- the message is that of the first debt of which P holds, and a send of it at t pays that debt; where no message is found, P holds of none
abbrev pub IsFirstPaid : (Debt → Type 0) → ℕ → List Debt → Option ℕ → Type 0
IsFirstPaid P t debts None = All (λ debt. ¬ (P debt)) debts
IsFirstPaid P t debts (Some message) = (one : IsWithoutFirst P debts (paid_by message t debts)) × (one.first.message ≡ message)

-- the deadlines of those debts that must be sent
abbrev pub debt_deadlines : List Debt → List ℕ
debt_deadlines debts = map (λ debt. debt.deadline) (filter (λ debt. debt.must) debts)

-- the least of these moments, and None if there is none
abbrev pub earliest : List ℕ → Option ℕ
earliest moments = reduce min moments

-- t is not past this moment; it is past no moment where there is none
abbrev pub is_within : ℕ → Option ℕ → Bool
is_within t None = true
is_within t (Some last) = nat_le t last

-- no deadline of what must be sent is before t
abbrev pub is_timely : ℕ → List Debt → Bool
is_timely t debts = is_within t (earliest (debt_deadlines debts))
