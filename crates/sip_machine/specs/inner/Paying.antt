-- Which debt a send pays.
use Rattle.std.specs.Prelude.{◌≤◌, ℕ, Option, None, Some, List, All}
use Rattle.sip_ledger.specs.declared.debt.Debt.{Debt}
use Rattle.sip_ledger.specs.Debts.{paid_by}
use Rattle.sip_machine.specs.Texts.{Texts, text_of}
use Rattle.sip_machine.specs.inner.Tos.{IsToOf}
use Rattle.sip_standard.specs.Debts.{IsWithoutFirst}

-- a send that satisfies these messages pays the debt at t: it satisfies the message of the debt, whose deadline is not before t
abbrev pub PaysFor : (List ℕ → Type 0) → Texts → ℕ → Debt → Type 0
PaysFor Satisfies texts t debt = Satisfies (text_of texts debt.message) × (t ≤ debt.deadline)

-- the message of the debt has this To, and its deadline is not before t
abbrev pub HasTo : Texts → List ℕ → ℕ → Debt → Type 0
HasTo texts to = PaysFor (λ bytes. IsToOf bytes to) texts

-- the debt that a send of this message at t pays is the first of which P holds; where no message is found, P holds of none
abbrev pub FindsFirst : (Debt → Type 0) → ℕ → List Debt → Option ℕ → Type 0
FindsFirst P t debts None = All (λ debt. ¬ (P debt)) debts
FindsFirst P t debts (Some message) = IsWithoutFirst P debts (paid_by message t debts)
