-- What many states owe: what a send takes out of the debts of one state, and states that owe nothing.
use Prim.Native.Nat.{suc, zero}
use Rattle.std.proofs.lemmas.Bool.{cond_both}
use Rattle.std.proofs.lemmas.List.{set-set}
use Rattle.sip_machine.proofs.Words.{nat_tests, take_all, take-replicate, length-replicate, ◌≤◌, ◌≡◌, ◌<◌, ◌||◌, ℕ, true, false, IsTrue, List, [], ◌∷◌, ◌++◌, All, filter, length, min, set, take, list_any, refl, sym, ◌∙◌, ap, ap₂, arith, true≢false, list_any_at, All-nil, All-cons, filter-append, get_or-set_same, set-get_or, Debt, counts_at, is_payable, paid_by, IsWithoutFirst, owed_in, blank_rows}

-- What follows is of a send of one message at the moment t, which can pay one of the debts, or none.
module _ (message t : ℕ) where
  -- the debt is payable: it is of the message, and its deadline is not past
  abbrev Pays : Debt → Type 0
  Pays debt = IsTrue (is_payable message t debt)

  -- where a send can pay one of the debts, it takes the first that it can pay out of them
  pub pays-some : (debts : List Debt) → list_any (is_payable message t) debts ≡ true → IsWithoutFirst Pays debts (paid_by message t debts)
  pays-some [] any = absurd (true≢false (sym any))
  pays-some (debt ∷ debts) any =
      cond_both (is_payable message t debt) debts (debt ∷ paid_by message t debts) (IsWithoutFirst Pays (debt ∷ debts))
      (λ is. record { before = []; first = debt; after = debts; whole = refl; holds = is; none_before = All-nil (λ x. ¬ (Pays x)); rest = refl })
      (λ is.
      -- the debt stands before the first that is paid, and else all is as in the list after it
      let a = pays-some debts (sym (ap (λ b. b || list_any (is_payable message t) debts) is) ∙ any) in
      record {
        before = debt ∷ a.before;
        first = a.first;
        after = a.after;
        whole = ap (λ ds. debt ∷ ds) a.whole;
        holds = a.holds;
        none_before = All-cons (λ x. ¬ (Pays x)) debt a.before (λ pays. true≢false (sym pays ∙ is)) a.none_before;
        rest = ap (λ ds. debt ∷ ds) a.rest;
      })

  -- where the test finds no payable debt, none of the debts is payable
  pub pays-none : (debts : List Debt) → list_any (is_payable message t) debts ≡ false → All (λ x. ¬ (Pays x)) debts
  pays-none debts none = λ k d low pays. true≢false (sym (list_any_at (is_payable message t) debts k d low pays) ∙ none)

-- What follows is of what each of many states owes, by rows.

-- rows without accounts owe nothing
pub owed-none : (count row : ℕ) → owed_in (blank_rows count) row ≡ []
owed-none zero row = refl
owed-none (suc count) zero = refl
owed-none (suc count) (suc row) = owed-none count row

-- rows that each owe nothing are the rows that there are without accounts
pub all_blank : (rows : List (List Debt)) → ((k : ℕ) → k < length rows → owed_in rows k ≡ []) → rows ≡ blank_rows (length rows)
all_blank [] none = refl
all_blank (row ∷ rows) none = ap₂ (λ r rs. r ∷ rs) (none 0 (omega arith)) (all_blank rows (λ k low. none (suc k) (omega (arith, low))))

-- where a row that owes nothing is put in the place of one, rows without accounts stay as they are
pub set_none : (count row : ℕ) (debts : List Debt) → debts ≡ [] → blank_rows count ≡ set (blank_rows count) row debts
set_none count row debts is = sym (set-get_or (blank_rows count) row []) ∙ ap (set (blank_rows count) row) (owed-none count row ∙ sym is)

-- without accounts, the first n rows owe nothing
pub take_none : (count n : ℕ) → blank_rows (min count n) ≡ take n (blank_rows count)
take_none count n = grind (arith, nat_tests, take-replicate, take_all, length-replicate)

-- a row that is changed and then changed again is as if it was changed once, to what the second change makes of the first
pub set_again : (rows : List (List Debt)) (row : ℕ) (debts : List Debt) (f : List Debt → List Debt) → row < length rows →
    set (set rows row debts) row (f (owed_in (set rows row debts) row)) ≡ set rows row (f debts)
set_again rows row debts f low = ap (λ x. set (set rows row debts) row (f x)) (get_or-set_same rows row debts [] low) ∙ set-set rows row debts (f debts)

-- a debt that is gained counts at its own moment, so that dropping what has expired before or after comes to the same
pub counted-gain : (t : ℕ) (owes : List Debt) (debt : Debt) → t ≤ debt.deadline → filter (counts_at t) (owes ++ debt ∷ []) ≡ filter (counts_at t) owes ++ debt ∷ []
counted-gain t owes debt now = grind (arith, filter-append)
