-- The states of a pool, many of which take the same step.
use Rattle.sip_machine.proofs.Words.{nat_tests, ◌≡◌, ◌<◌, ◌≤◌, ◌+◌, ℕ, Bool, List, [], ◌∷◌, ◌++◌, All, drop, filter, get_or, length, map, replicate, take, refl, sym, ◌∙◌, ap, ap₂, arith, drop-append-le, drop-map, length-drop, length-map, length-take-le, All-get_or, take-map, take_more, All-filter, All-tail, Debt, from_to, CodeOwing, filter-map, owed_in, picked, beside}
use Rattle.sip_machine.proofs.pools.PoolLemmas.{beside-append, beside-at, owes-beside}
use Rattle.sip_machine.proofs.pools.CoversLemmas.{slice-get}

-- What follows is of parts of a list, from one index up to another.
module _ {X : Type 0} where
  -- the elements up to one place further have the element there at their end
  pub from_to-more : (from k : ℕ) (xs : List X) (d : X) → from ≤ k → k < length xs → from_to from (k + 1) xs ≡ from_to from k xs ++ get_or xs k d ∷ []
  from_to-more from k xs d le low =
      let size = length-take-le k xs (omega (arith, low)) in
      ap (drop from) (take_more xs k d low) ∙ drop-append-le from (take k xs) (get_or xs k d ∷ []) (omega (arith, le, size))

  -- what holds of all elements from one index up to another holds of the element at an index between
  pub some-at : (P : X → Type 0) (from to k : ℕ) (xs : List X) (d : X) → to ≤ length xs → from ≤ k → k < to → All P (from_to from to xs) → P (get_or xs k d)
  some-at P from to k xs d within low high all = grind (arith, nat_tests, slice-get, length-drop, length-take-le, All-get_or)

-- What follows is of phases beside the rows of what is owed, as the states of a pool.
module _ {S : Type 0} where
  -- where h gives each state the phase q and the debts that g gives, one phase for each beside these debts is the states that h gives
  beside-each : (q : S) (g : List Debt → List Debt) (h : CodeOwing S → CodeOwing S) (xs : List (CodeOwing S)) → All (λ x. record { phase = q; owes = g x.owes } ≡ h x) xs →
      beside (replicate (length xs) q) (map g (map (λ x. x.owes) xs)) ≡ map h xs
  beside-each q g h [] same = refl
  beside-each q g h (x ∷ xs) same =
      ap₂ (λ y ys. y ∷ ys) (same 0 x (omega arith)) (beside-each q g h xs (All-tail (λ x. record { phase = q; owes = g x.owes } ≡ h x) x xs same))

  -- where copies of some rows come after the others, each changed by g, and the phase q for each, the states are the old ones and those that h gives
  pub pushed-is : (q : S) (g : List Debt → List Debt) (h : CodeOwing S → CodeOwing S) (p : List Debt → Bool) (phases : List S) (rows : List (List Debt)) (xs : List (CodeOwing S)) (from to n : ℕ) →
      beside phases rows ≡ xs → length rows ≡ length phases → n ≡ length (map g (filter p (from_to from to rows))) →
      All (λ x. record { phase = q; owes = g x.owes } ≡ h x) (from_to from to xs) →
      beside (phases ++ replicate n q) (rows ++ map g (filter p (from_to from to rows))) ≡ xs ++ map h (filter (λ x. p x.owes) (from_to from to xs))
  pushed-is q g h p phases rows xs from to n is long size same =
      let owes : CodeOwing S → List Debt = λ x. x.owes in
      let some = filter (λ x. p x.owes) (from_to from to xs) in
      -- the rows of the states that pass are the rows that pass
      let rows_are : filter p (from_to from to rows) ≡ map owes some
      = ap (λ rs. filter p (from_to from to rs)) (sym (owes-beside phases rows long) ∙ ap (map owes) is) ∙ simp (take-map, drop-map, filter-map) in
      let count : n ≡ length some = size ∙ length-map (filter p (from_to from to rows)) g ∙ ap length rows_are ∙ length-map some owes in
      -- the new rows stand beside the one phase
      beside-append phases (replicate n q) rows (map g (filter p (from_to from to rows))) long
      ∙ ap₂ (λ ys zs. ys ++ zs) is (ap₂ (λ k rs. beside (replicate k q) (map g rs)) count rows_are
      ∙ beside-each q g h some (All-filter (λ x. p x.owes) (λ x. record { phase = q; owes = g x.owes } ≡ h x) (from_to from to xs) same))

  -- the phases at some indices beside the rows there are the states there
  pub beside-picked : (phases : List S) (rows : List (List Debt)) (kept : List ℕ) (x : CodeOwing S) → All (λ row. row < length phases) kept →
      beside (picked phases x.phase kept) (map (owed_in rows) kept) ≡ picked (beside phases rows) x kept
  beside-picked phases rows [] x within = refl
  beside-picked phases rows (row ∷ kept) x within =
      ap₂ (λ y ys. y ∷ ys) (sym (beside-at phases rows row x.phase x (within 0 row (omega arith)))) (beside-picked phases rows kept x (All-tail (λ row. row < length phases) row kept within))
