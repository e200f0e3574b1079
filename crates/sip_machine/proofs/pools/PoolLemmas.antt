-- The states of a pool: a list of phases and a list of what is owed, read as one list.
use Prim.Native.Nat.{suc, zero}
use Rattle.std.specs.List.{copy_within}
use Rattle.std.proofs.lemmas.List.{nil_from_length, same_lists}
use Rattle.sip_machine.proofs.Words.{◌+◌, get_or-take, get_or-drop, get_or-set_same, get_or-set_other, cases_eq, length-set, ◌≡◌, ◌<◌, ◌≤◌, ℕ, List, [], ◌∷◌, ◌++◌, drop, get_or, length, map, set, take, HoldsAt, refl, sym, ◌∙◌, ap, ap₂, subst, arith, nat_tests, get_or-append_seam, take-append_seam, length-drop, set-get_or, set_at, set_split, drop_all, length-take, length_push, take-take, take_all, take_at, take_rest, length-take-le, ◌-◌, Debt, CodeOwing, at_rest, state_in, Rest, Stays, Pays, owed_in, rested_debts, rests_at, beside}

-- What follows is of phases beside the rows of what is owed, as the states of a pool.
module _ {S : Type 0} where
  -- phases beside rows are as many states as there are phases
  pub beside-length : (phases : List S) (rows : List (List Debt)) → length (beside phases rows) ≡ length phases
  beside-length [] rows = refl
  beside-length (phase ∷ phases) [] = ap suc (beside-length phases [])
  beside-length (phase ∷ phases) (row ∷ rows) = ap suc (beside-length phases rows)

  -- the state at k of phases beside rows is the phase at k with what row k has
  pub beside-at : (phases : List S) (rows : List (List Debt)) (k : ℕ) (p : S) (x : CodeOwing S) → k < length phases → get_or (beside phases rows) k x ≡ state_in (get_or phases k p) rows k
  beside-at [] rows k p x low = absurd (omega (arith, low))
  beside-at (phase ∷ phases) [] zero p x low = refl
  beside-at (phase ∷ phases) [] (suc k) p x low = grind (arith, nat_tests, beside-at phases [] k p x)
  beside-at (phase ∷ phases) (row ∷ rows) zero p x low = refl
  beside-at (phase ∷ phases) (row ∷ rows) (suc k) p x low = beside-at phases rows k p x (omega (arith, low))

  -- phases and further ones beside their rows are the states of the phases and then those of the further ones
  pub beside-append : (phases more : List S) (rows again : List (List Debt)) → length rows ≡ length phases →
      beside (phases ++ more) (rows ++ again) ≡ beside phases rows ++ beside more again
  beside-append [] more [] again long = refl
  beside-append [] more (row ∷ rows) again long = absurd (omega (arith, long))
  beside-append (phase ∷ phases) more [] again long = absurd (omega (arith, long))
  beside-append (phase ∷ phases) more (row ∷ rows) again long = grind (arith, nat_tests, beside-append phases more rows again)

  -- the first n phases beside the first n rows are the first n states
  pub beside-take : (phases : List S) (rows : List (List Debt)) (n : ℕ) → length rows ≡ length phases → beside (take n phases) (take n rows) ≡ take n (beside phases rows)
  beside-take phases rows n long = same_lists _ _ (grind (arith, nat_tests, beside-length, length-take))
      (λ k d low. grind (arith, nat_tests, get_or-take, length-take, beside-length, beside-at (take n phases) (take n rows) k d.phase d, beside-at phases rows k d.phase d))

  -- the phases without the first n beside the rows without the first n are the states without the first n
  pub beside-drop : (phases : List S) (rows : List (List Debt)) (n : ℕ) → length rows ≡ length phases → beside (drop n phases) (drop n rows) ≡ drop n (beside phases rows)
  beside-drop phases rows n long = same_lists _ _ (grind (arith, nat_tests, beside-length, length-drop))
      (λ k d low. grind (arith, nat_tests, get_or-drop, length-drop, beside-length, beside-at (drop n phases) (drop n rows) k d.phase d, beside-at phases rows (n + k) d.phase d))

  -- where the phase and the row at k are changed, the state at k is
  pub beside-set : (phases : List S) (rows : List (List Debt)) (k : ℕ) (phase : S) (row : List Debt) → length rows ≡ length phases →
      beside (set phases k phase) (set rows k row) ≡ set (beside phases rows) k (record { phase = phase; owes = row })
  beside-set phases rows k p r long = same_lists _ _ (grind (arith, nat_tests, beside-length, length-set))
      (λ j d low. grind (arith, nat_tests, cases_eq, get_or-set_same, get_or-set_other, length-set, beside-length, beside-at (set phases k p) (set rows k r) j d.phase d, beside-at phases rows j d.phase d))

  -- a state that rests keeps its phase, and owes what is left of its debts where it rests
  rests-owes : (t : ℕ) (rest : Rest) (x : CodeOwing S) → rests_at t rest x ≡ record { phase = x.phase; owes = rested_debts t rest x.owes }
  rests-owes t Stays x = refl
  rests-owes t (Pays message) x = refl

  -- where the state at k comes to rest, its row is changed alone
  pub rested-set : (phases : List S) (rows : List (List Debt)) (k t : ℕ) (rest : Rest) (x : CodeOwing S) → length rows ≡ length phases → k < length phases →
      set (beside phases rows) k (rests_at t rest (get_or (beside phases rows) k x)) ≡ beside phases (set rows k (rested_debts t rest (owed_in rows k)))
  rested-set phases rows k t rest x long low =
      let p = get_or phases k x.phase in
      grind (arith, beside-at phases rows k x.phase x low, rests-owes t rest (state_in p rows k), beside-set phases rows k p (rested_debts t rest (owed_in rows k)) long, set-get_or phases k x.phase)

  -- an index of a state is one of a phase, and of a row
  pub in-phases : (phases : List S) (rows : List (List Debt)) (xs : List (CodeOwing S)) (k : ℕ) → beside phases rows ≡ xs → k < length xs → k < length phases
  in-phases phases rows xs k is low = subst (λ n. k < n) (ap length (sym is) ∙ beside-length phases rows) low

  -- an index of a state is one of a row
  pub in-rows : (phases : List S) (rows : List (List Debt)) (xs : List (CodeOwing S)) (k : ℕ) → beside phases rows ≡ xs → length rows ≡ length phases → k < length xs → k < length rows
  in-rows phases rows xs k is long low = subst (λ n. k < n) (sym long) (in-phases phases rows xs k is low)

  -- the state at k is the phase at k with what row k has
  pub state-at : (phases : List S) (rows : List (List Debt)) (xs : List (CodeOwing S)) (k : ℕ) (p : S) (x : CodeOwing S) → beside phases rows ≡ xs → k < length xs →
      get_or xs k x ≡ state_in (get_or phases k p) rows k
  state-at phases rows xs k p x is low = ap (λ ys. get_or ys k x) (sym is) ∙ beside-at phases rows k p x (in-phases phases rows xs k is low)

  -- the phase of the state at k is the phase at k
  pub phase-at : (phases : List S) (rows : List (List Debt)) (xs : List (CodeOwing S)) (k : ℕ) (p : S) (x : CodeOwing S) → beside phases rows ≡ xs → k < length xs →
      p ≡ get_or phases k p → (get_or xs k x).phase ≡ p
  phase-at phases rows xs k p x is low is_p = ap (λ z. z.phase) (state-at phases rows xs k p x is low) ∙ sym is_p

  -- the phase at k with what row k has is the state at k
  pub state-here : (phases : List S) (rows : List (List Debt)) (xs : List (CodeOwing S)) (k : ℕ) (p : S) (x : CodeOwing S) → beside phases rows ≡ xs → k < length xs →
      p ≡ get_or phases k p → state_in p rows k ≡ get_or xs k x
  state-here phases rows xs k p x is low is_p = ap (λ q. state_in q rows k) is_p ∙ sym (state-at phases rows xs k p x is low)

  -- what holds of the state at k holds of the phase at k with what row k has
  pub holds-here : (P : CodeOwing S → Type 0) (phases : List S) (rows : List (List Debt)) (xs : List (CodeOwing S)) (k : ℕ) (p : S) → beside phases rows ≡ xs → k < length xs →
      p ≡ get_or phases k p → HoldsAt P xs k → P (state_in p rows k)
  holds-here P phases rows xs k p is low is_p there = subst P (sym (state-here phases rows xs k p (at_rest p) is low is_p)) (there (at_rest p))

  -- states with the same phase and the same debts are the same
  pub same-state : (x y : CodeOwing S) → x.phase ≡ y.phase → x.owes ≡ y.owes → x ≡ y
  same-state x y phase owes = let e : record { phase = x.phase; owes = x.owes } ≡ y = rw (phase, owes) in e

-- What follows is of lists that grow at their end.
module _ {X : Type 0} where
  -- an element of a list that has one at k
  pub some-at : (xs : List X) (k : ℕ) → k < length xs → X
  some-at [] k low = absurd (omega (arith, low))
  some-at (x ∷ xs) k low = x

  -- a list that begins with the old elements is at least as long
  pub not-shorter : (old new : List X) → take (length old) new ≡ old → length old ≤ length new
  not-shorter old new front = omega (arith, ap length front, length-take (length old) new)

  -- a list that begins with one that begins with the old elements begins with the old ones
  pub front-again : (old mid new : List X) → take (length old) mid ≡ old → take (length mid) new ≡ mid → take (length old) new ≡ old
  front-again old mid new first second = sym (take-take (length old) (length mid) new (not-shorter old mid first)) ∙ ap (take (length old)) second ∙ first

  -- a list of one element that is set to x is the list of x
  pub alone-set : (xs : List X) (x : X) → length xs ≡ 1 → set xs 0 x ≡ x ∷ []
  alone-set xs x one = set_split xs 0 x (omega (arith, one)) ∙ ap (λ ys. x ∷ ys) (drop_all 1 xs (omega (arith, one)))

  -- where elements were put after the old ones, the first as many as there were are the old ones
  pub take-old : (old added new : List X) (n : ℕ) → new ≡ old ++ added → n ≡ length old → take n new ≡ old
  take-old old added new n is at = ap₂ take at is ∙ take-append_seam old added

  -- where a copy of the element at k was put after the old ones, and is then changed by f, f of that element stands after the old ones
  pub copy-changed : (old more new : List X) (k last : ℕ) (f : X → X) → k < length old → HoldsAt (λ x. more ≡ old ++ x ∷ []) old k → last ≡ length old →
      HoldsAt (λ x. new ≡ set more last (f x)) more last → HoldsAt (λ x. new ≡ old ++ f x ∷ []) old k × (take (length old) new ≡ old)
  copy-changed old more new k last f low copied at changed =
      let is : HoldsAt (λ x. new ≡ old ++ f x ∷ []) old k = λ d. let same = copied d in let then = changed d in grind (arith, get_or-append_seam, set_at) in
      (is, take-old old _ new (length old) (is (some-at old k low)) refl)

-- how phases and rows of a pool stand beside each other: the lemmas that `using(..)` gives the prover in `src/pool.rt`
pub ruleset of_pool = (beside-length, phase-at, beside-append, beside-set, beside-take, nil_from_length, in-phases, in-rows, rested-set, state-at, same-state, take-append_seam, take_all, length_push, not-shorter, front-again)

-- where all items are moved to the front by `count` places, and the last ones are left out, the first `count` items are dropped
pub dropped-first : {X : Type 0} (count len : ℕ) (xs : List X) → len ≡ length xs → count ≤ length xs → take (len - count) (copy_within xs count len 0) ≡ drop count xs
dropped-first count len xs is few = grind (arith, nat_tests, length-drop, take_at, length-take-le, take_rest)

-- what is left in a pool after the first states: the lemmas that `using(..)` gives the prover in `src/pool.rt`
pub ruleset of_drop = (beside-length, beside-drop, dropped-first, length-drop)

-- states of phases that owe what rows have, one each, owe what the rows have
pub owes-beside : {S : Type 0} (phases : List S) (rows : List (List Debt)) → length rows ≡ length phases → map (λ x. x.owes) (beside phases rows) ≡ rows
owes-beside [] [] long = refl
owes-beside [] (owes ∷ rows) long = absurd (omega (arith, long))
owes-beside (phase ∷ phases) [] long = absurd (omega (arith, long))
owes-beside (phase ∷ phases) (owes ∷ rows) long = ap (λ l. owes ∷ l) (owes-beside phases rows (omega (arith, long)))
