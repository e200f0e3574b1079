-- What is owed once one place changes (o and m say which places are owed and which must be, o' and m' which then), what a payment leaves, and longer runs.
use Rattle.sip_ledger.proofs.Words.{blank, ◌≡◌, ◌+◌, ◌-◌, List, [], ◌∷◌, ◌++◌, length, get_or, set, arith, nat_tests, cases_eq, flat_map-append, append-nil, append_assoc, drop_all, get_or_default, get_or-set_same, get_or-set_other, length-set, replicate_more, set_split, take-append-drop, drop_more, All-set, Debt, Run, debts_in, AreRuns, ◌∙◌, ℕ, All, refl, sym, ap, cond, IsTrue, false_from_ne_true, All-head, All-tail, IsWithoutFirst, is_payable, paid_by, ◌≢◌, ◌<◌, ◌≤◌, Bool, true, false, take, drop, ap₂, subst, list_any, list_any-append, get_or-take, length-take-le, Entry, debt_of, debts_from, IsWithout, EndsWith}
use Rattle.sip_ledger.proofs.debts.ListedLemmas.{front, back, parts, back-at, back-set, listed-none, listed-same, front-same, listed-each}

-- the new debts are the old ones without `debt`, which stood between those of `before` and those of `after`
pub record IsCut (before : List Debt) (debt : Debt) (after old new : List Debt) : Type 0 where
  pub whole : old ≡ before ++ debt ∷ after
  pub rest : new ≡ before ++ after

-- where the place `at` is owed no more, the debts are those of before without its debt
pub cut-at : (entries : List Entry) (o m o' m' : ℕ → Bool) (at : ℕ) → at < length entries → o at ≡ true → IsWithout at o o' → ((k : ℕ) → m' k ≡ m k) →
    IsCut (front o m entries at) (debt_of (get_or entries at blank) (m at)) (back o m entries (at + 1)) (debts_from o m 0 entries) (debts_from o' m' 0 entries)
cut-at entries o m o' m' at within is without must =
    let less : at ≤ length entries = omega (arith, within) in
    record {
      whole = parts o m entries at less ∙ ap (λ l. front o m entries at ++ l) (back-set o m entries at blank within is);
      -- the debts before the place and after it are the same
      rest = parts o' m' entries at less
          ∙ ap₂ (λ a b. a ++ b)
          (front-same o' m' o m entries at less (λ j below. let other : j ≢ at = omega (arith, below) in (without.others j other, must j)))
          (back-at o' m' entries at blank within
          ∙ ap (λ b. cond b (debt_of (get_or entries at blank) (m' at) ∷ back o' m' entries (at + 1)) (back o' m' entries (at + 1))) without.gone
          ∙ listed-same o' m' o m (at + 1) (drop (at + 1) entries) (λ j above below. let other : j ≢ at = omega (arith, above) in (without.others j other, must j)));
    }

-- where `at` is the first place that is owed whose debt has P, the debts without that place are those of before without the first of which P holds
abbrev pub removed : (P : Debt → Type 0) (entries : List Entry) (o m o' m' : ℕ → Bool) (at : ℕ) → at < length entries → o at ≡ true → IsWithout at o o' → ((k : ℕ) → m' k ≡ m k) →
    P (debt_of (get_or entries at blank) (m at)) → ((k : ℕ) → k < at → o k ≡ true → ¬ (P (debt_of (get_or entries k blank) (m k)))) →
    IsWithoutFirst P (debts_from o m 0 entries) (debts_from o' m' 0 entries)
removed P entries o m o' m' at within is without must holds none =
    let cut = cut-at entries o m o' m' at within is without must in
    record {
      -- the debts before the place, its debt and the debts after it are those of before
      before = front o m entries at;
      first = debt_of (get_or entries at blank) (m at);
      after = back o m entries (at + 1);
      whole = cut.whole;
      holds = holds;
      none_before = listed-each (λ d. ¬ (P d)) o m (take at entries) (λ k below set.
          let early : k < at = omega (arith, below, length-take-le at entries (omega (arith, within))) in
          subst (λ e. ¬ (P (debt_of e (m k)))) (sym (get_or-take at entries k blank early)) (none k early set));
      rest = cut.rest;
    }

-- where the place `at`, after all others that are owed, is owed too, its debt stands after the others
pub gained-debts : (entries : List Entry) (o m o' m' : ℕ → Bool) (at : ℕ) → at < length entries → ((k : ℕ) → at ≤ k → o k ≡ false) →
    o' at ≡ true → ((k : ℕ) → k ≢ at → o' k ≡ o k) → ((k : ℕ) → k ≢ at → m' k ≡ m k) →
    debts_from o' m' 0 entries ≡ debts_from o m 0 entries ++ debt_of (get_or entries at blank) (m' at) ∷ []
gained-debts entries o m o' m' at inside last here others must_others =
    let debt = debt_of (get_or entries at blank) (m' at) in
    let less : at ≤ length entries = omega (arith, inside) in
    -- before the place was owed, it had nothing after it
    let old = parts o m entries at less ∙ ap (λ l. front o m entries at ++ l) (listed-none o m at (drop at entries) (λ j above below. last j above)) ∙ append-nil (front o m entries at) in
    parts o' m' entries at less
    ∙ ap₂ (λ a b. a ++ b)
    (front-same o' m' o m entries at less (λ j below. let not : j ≢ at = omega (arith, below) in (others j not, must_others j not)) ∙ sym old)
    (back-set o' m' entries at blank inside here
    ∙ ap (λ l. debt ∷ l) (listed-none o' m' (at + 1) (drop (at + 1) entries) (λ j above below. let not : j ≢ at = omega (arith, above) in others j not ∙ last j (omega (arith, above)))))

-- where the debt of a place that is owed passes a test, one of the debts does
pub listed-any : (test : Debt → Bool) (entries : List Entry) (o m : ℕ → Bool) (at : ℕ) → at < length entries → o at ≡ true →
    test (debt_of (get_or entries at blank) (m at)) ≡ true → list_any test (debts_from o m 0 entries) ≡ true
listed-any test entries o m at within is passes = grind (arith, nat_tests, parts o m entries at, back-set o m entries at blank, list_any-append)

-- What follows is of a send of one message at the moment t.
module _ (message t : ℕ) where
  -- the send does not pay the debt
  abbrev Unpaid : Debt → Type 0
  Unpaid debt = ¬ (IsTrue (is_payable message t debt))

  -- a send pays the first debt that it can pay: those before it and after it stay
  -- the first debt of the list is paid, or the send cannot pay it and pays a later one
  pub paid-behind : (before : List Debt) (first : Debt) (after : List Debt) → All Unpaid before → IsTrue (is_payable message t first) →
      paid_by message t (before ++ first ∷ after) ≡ before ++ after
  paid-behind [] first after none pays = ap (λ b. cond b after (first ∷ paid_by message t after)) pays
  paid-behind (debt ∷ before) first after none pays = grind (arith, nat_tests, false_from_ne_true, All-head, All-tail, paid-behind before first after (All-tail Unpaid debt before none) pays)

  -- debts without the first that the send can pay are what `paid_by` leaves
  pub paid-is : (debts left : List Debt) → IsWithoutFirst (λ debt. IsTrue (is_payable message t debt)) debts left → left ≡ paid_by message t debts
  paid-is debts left a = a.rest ∙ sym (paid-behind a.before a.first a.after a.none_before a.holds) ∙ ap (paid_by message t) (sym a.whole)

  -- where a send can pay none of the debts, all stay
  pub unpaid-is : (debts : List Debt) → All Unpaid debts → paid_by message t debts ≡ debts
  unpaid-is [] none = refl
  unpaid-is (debt ∷ debts) none = grind (arith, nat_tests, false_from_ne_true, All-head, All-tail, unpaid-is debts (All-tail Unpaid debt debts none))

-- where the last run is one longer, its debts are those of the runs before and one more of its own
more-debts : (xs : List Run) (run : Run) → debts_in (xs ++ (record { debt = run.debt; count = run.count + 1 }) ∷ []) ≡ debts_in (xs ++ run ∷ []) ++ run.debt ∷ []
more-debts xs run = grind (arith, nat_tests, replicate_more, append_assoc, flat_map-append, append-nil)

-- where debts stand in runs, and the last run is of a debt, the debts and one more of it stand in runs of which the last is one longer
pub widened-run : (debts : List Debt) (runs : List Run) (a : Run) (debt : Debt) → AreRuns debts runs → EndsWith runs debt → a ≡ get_or runs (length runs - 1) a →
    AreRuns (debts ++ debt ∷ []) (set runs (length runs - 1) (record { debt = a.debt; count = a.count + 1 }))
widened-run debts runs a debt are ends is = grind (arith, nat_tests, cases_eq, get_or-set_same, get_or_default, get_or-set_other, more-debts, All-set, length-set, take-append-drop, drop_more, drop_all, set_split)
