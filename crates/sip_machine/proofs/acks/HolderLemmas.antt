-- Which debt is the first one whose message has a given To. It is the first of all, or is looked for among the messages of a set.
-- `IsFirstPaid P t debts m` says that m is the message of the first debt of which P holds, and that a send of it at t pays that debt; or that there is no m,
-- and P holds of none.
use Rattle.std.proofs.lemmas.Option.{slice_get_within}
use Rattle.sip_machine.proofs.Words.{◌≡◌, ◌<◌, ◌∷◌, ◌↔◌, ℕ, true, ap, arith, nat_tests, numbers_of, Option, None, Some, List, [], All, get_or, length, All-get_or, All-nil, Debt, IsFirstPaid, PaysSome, paid_by, owed_in, owes_names, Texts, Keeps, text_of, HasThose, HasTo, IsWithoutFirst-alike, All-names, FindsFirst, AreBetween, IsToOf, slice_get, get_or_from_slice_get}
use Rattle.sip_numbers.specs.declared.numbers.Word.{Word}

-- where P and Q hold of the same debts, the first debt of which P holds is the first of which Q holds
pub FindsFirst-same : (P Q : Debt → Type 0) (t : ℕ) (debts : List Debt) (message : Option ℕ) → All (λ d. P d ↔ Q d) debts → FindsFirst P t debts message → FindsFirst Q t debts message
FindsFirst-same P Q t debts None same none = λ k d low holds. none k d low ((same k d low).1 holds)
FindsFirst-same P Q t debts (Some message) same first = IsWithoutFirst-alike P Q debts (paid_by message t debts) same first

-- What follows is of a To and of the moment t of a send.
module _ (texts : Texts) (to : List ℕ) (t : ℕ) where
  -- where the messages of debts have the To just if they are in a set, what is found by the set is found by the To
  pub found-among : (set : List Word) (debts : List Debt) (found : Option ℕ) → All (λ d. PaysSome (numbers_of set) t d ↔ HasTo texts to t d) debts →
      IsFirstPaid (PaysSome (numbers_of set) t) t debts found → FindsFirst (HasTo texts to t) t debts found
  found-among set debts None same none = FindsFirst-same (PaysSome (numbers_of set) t) (HasTo texts to t) t debts None same none
  found-among set debts (Some message) same (one, _) = FindsFirst-same (PaysSome (numbers_of set) t) (HasTo texts to t) t debts (Some message) same one

  -- of the kept messages with numbers between which those lie that rows owe, a set has those with the To; then so it is with the messages that a row owes
  pub in-set : (low high : ℕ) (rows : List (List Debt)) (row : ℕ) (set : List Word) → row < length rows → All (AreBetween low high) rows →
      All (Keeps texts) (owes_names (owed_in rows row)) → HasThose texts low high to set → All (λ d. PaysSome (numbers_of set) t d ↔ HasTo texts to t d) (owed_in rows row)
  in-set low high rows row set inside spans kept all = λ k d within.
      let between = All-get_or (AreBetween low high) rows row [] inside spans k d within in
      let same = all (get_or (owed_in rows row) k d).message (All-names (Keeps texts) (owed_in rows row) kept k d within) between.0 between.1 in
      (λ pays. (same.0 pays.0, pays.1), λ has. (same.1 has.0, has.1))

  -- each number of the set is of a message with the To, and of these names each whose message has it is in the set
  pub record AreWith (set : List Word) (names : List ℕ) : Type 0 where
    pub only : (n : ℕ) → numbers_of set n ≡ true → IsToOf (text_of texts n) to
    pub each : All (λ n. IsToOf (text_of texts n) to → numbers_of set n ≡ true) names

  -- where the message of the first debt has the To, and its deadline is not before t, that is the debt that is found
  pub first-is : (debts : List Debt) (debt : Debt) → slice_get debts 0 ≡ Some debt → HasTo texts to t debt → FindsFirst (HasTo texts to t) t debts (Some debt.message)
  first-is [] debt is has = absurd (omega (arith, slice_get_within [] 0 debt is))
  first-is (first ∷ debts) debt is has =
      let same : first ≡ debt = get_or_from_slice_get (first ∷ debts) 0 debt debt is in
      record {
        before = [];
        first = debt;
        after = debts;
        whole = ap (λ d. d ∷ debts) same;
        holds = has;
        none_before = All-nil (λ x. ¬ (HasTo texts to t x));
        rest = grind (arith, nat_tests, same);
      }
