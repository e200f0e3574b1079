-- A debt that must be sent stays owed until it is paid.
use Rattle.std.proofs.Common.{◌≡◌, ◌≤◌, ◌⊎◌, ◌||◌, inl, inr, ℕ, true, false, List, ◌++◌, Contains, refl, sym, subst, ◌∙◌}
use Rattle.std.specs.Prelude.{nat_le}
use Rattle.std.proofs.lemmas.List.Elements.{All-contains, Contains-append_left}
use Rattle.std.proofs.lemmas.List.Folds.{list_any-from_Any}
use Rattle.sip_standard.specs.Times.{Times}
use Rattle.sip_standard.specs.MachineEvent.{MachineEvent}
use Rattle.sip_standard.specs.Debts.{Owed, IsWithoutFirst}
use Rattle.sip_standard.specs.Figure.{Figure, Owing, Lasts, MayEnd}
use Rattle.consequences.proofs.lemmas.run.Lists.{contains-cases, contains-filter}
use Rattle.consequences.proofs.lemmas.run.Running.{left_at}

-- What follows is of `debt`, a debt that must be sent.
module _ (debt : Owed) (must : debt.must ≡ true) where
  -- the debt is still owed when an event comes
  pub still-owed : {X : Type 0} (e : MachineEvent) (x : Owing X) → Contains x.owes debt → Contains (left_at e x) debt
  still-owed e x owed = contains-filter (λ o. o.must || nat_le e.moment o.deadline) x.owes debt (rw must refl) owed

  -- where a debt is paid, the debt is still owed, or it is the one that is paid
  pub other-paid : (P : Owed → Type 0) (owes left : List Owed) → IsWithoutFirst P owes left → Contains owes debt → Contains left debt ⊎ P debt
  other-paid P owes left pays owed = by (contains-cases pays.before pays.after pays.first debt (subst (λ os. Contains os debt) pays.whole owed))
    where
      -- a debt of the list is owed still, or it is the one that was paid
      by : Contains (pays.before ++ pays.after) debt ⊎ (pays.first ≡ debt) → Contains left debt ⊎ P debt
      by (inl other) = inl (subst (λ os. Contains os debt) (sym pays.rest) other)
      by (inr this) = inr (subst P this pays.holds)

  -- the debt is still owed where more is owed
  pub more-owed : (owes more : List Owed) → Contains owes debt → Contains (owes ++ more) debt
  more-owed owes more owed = Contains-append_left owes more debt owed

  -- while the debt is owed its transaction does not end
  pub no-end : {X : Type 0} (f : Figure X) (p : Times) (x : Owing X) (h : ℕ) → Contains x.owes debt → ¬ (MayEnd f p x h)
  no-end f p x h owed may = true-false (sym (list_any-from_Any (λ o. o.must) x.owes (owed.0, debt, owed.1, owed.2, must)) ∙ may.1)
    where
      true-false : ¬ (true ≡ false)
      true-false same = cc

  -- while the debt is owed no moment past its deadline is reached
  pub in-time : {X : Type 0} (f : Figure X) (p : Times) (x : Owing X) (m : ℕ) → Contains x.owes debt → Lasts f p x m → m ≤ debt.deadline
  in-time f p x m owed lasts = All-contains (λ o. o.must ≡ true → m ≤ o.deadline) x.owes debt lasts.2 owed must
