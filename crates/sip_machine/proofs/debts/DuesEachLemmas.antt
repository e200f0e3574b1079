-- What many states owe, changed at once.
use Prim.Native.Nat.{suc, zero}
use Rattle.sip_machine.proofs.Words.{◌≡◌, ◌≤◌, ◌+◌, ◌-◌, ℕ, Bool, true, false, List, [], ◌∷◌, ◌++◌, drop, filter, length, map, take, refl, sym, ap, ap₂, arith, cond, list_any, is_payable, ◌&&◌, append-nil, nat_tests, drop-replicate, length-replicate, replicate-append-replicate, take-append-drop, take-replicate, All, All-drop, All-nil, All-replicate, None, map_fixed, subst, Debt, IsFirstPaid, paid_rows, is_timely, from_to, blank_rows, owed_in}
use Rattle.sip_machine.proofs.debts.DueLemmas.{owed-none, set_none, take_none}
use Rattle.sip_machine.proofs.debts.NamesLemmas.{owed-appends}

-- where each row from one on is changed by f and then by g, and both together change as h does, it is changed as by h
pub mapped-twice : (f g h : List Debt → List Debt) → ((owes : List Debt) → g (f owes) ≡ h owes) → (from : ℕ) (rows : List (List Debt)) →
    take from (take from rows ++ map f (drop from rows)) ++ map g (drop from (take from rows ++ map f (drop from rows))) ≡ take from rows ++ map h (drop from rows)
mapped-twice f g h is zero [] = refl
mapped-twice f g h is zero (owes ∷ rows) = ap₂ (λ row more. row ∷ more) (is owes) (mapped-twice f g h is zero rows)
mapped-twice f g h is (suc from) [] = refl
mapped-twice f g h is (suc from) (owes ∷ rows) = ap (λ more. owes ∷ more) (mapped-twice f g h is from rows)

-- What follows is of rows that owe nothing.

-- where a change leaves an empty list of debts empty, rows that owe nothing stay as they are
pub mapped-none : (f : List Debt → List Debt) (count from : ℕ) → f [] ≡ [] → blank_rows count ≡ take from (blank_rows count) ++ map f (drop from (blank_rows count))
mapped-none f count from is =
    let all = All-drop (λ owes. f owes ≡ owes) from (blank_rows count) (All-replicate (λ owes. f owes ≡ owes) count [] is) in
    grind (arith, map_fixed f (drop from (blank_rows count)) all, take-append-drop)

-- rows that owe nothing all pass the test, or none does; b says whether one passes it
passing : (p : List Debt → Bool) (n : ℕ) (b : Bool) → p [] ≡ b → filter p (blank_rows n) ≡ blank_rows (cond b n 0)
passing p zero b is = grind (arith, nat_tests)
passing p (suc n) b is = grind (arith, nat_tests, passing p n b is)

-- of rows that owe nothing, the timely ones from one index up to another, put after the others, are as many such rows more: all are timely
pub timely-none : (t count from to : ℕ) → to ≤ count →
    blank_rows (count + (to - from)) ≡ blank_rows count ++ filter (is_timely t) (from_to from to (blank_rows count))
timely-none t count from to le = grind (arith, replicate-append-replicate, passing (is_timely t) (to - from) true refl, take-replicate, drop-replicate)

-- of rows that owe nothing, none pays
pub paid-none : (message t count from to : ℕ) → to ≤ count → blank_rows count ≡ blank_rows count ++ paid_rows message t (from_to from to (blank_rows count))
paid-none message t count from to le = grind (arith, nat_tests, take-replicate, drop-replicate, passing (λ owes. list_any (is_payable message t) owes && is_timely t owes) (to - from) false refl, append-nil)

-- of rows that owe nothing, those at some indices owe nothing
pub kept-none : (count : ℕ) (kept : List ℕ) → blank_rows (length kept) ≡ map (owed_in (blank_rows count)) kept
kept-none count [] = refl
kept-none count (row ∷ kept) = ap₂ (λ owes rows. owes ∷ rows) (sym (owed-none count row)) (kept-none count kept)

-- of rows that owe nothing, none has a debt of which P holds, and so a send pays none first (`IsFirstPaid`)
pub unpaid-none : (P : Debt → Type 0) (t count row : ℕ) → IsFirstPaid P t (owed_in (blank_rows count) row) None
unpaid-none P t count row = subst (All (λ debt. ¬ (P debt))) (sym (owed-none count row)) (All-nil (λ debt. ¬ (P debt)))

-- how rows that owe nothing stand after each change, and what rows name: the lemmas that `using(..)` gives the prover in `src/dues.rt`
pub ruleset of_blank = (owed-none, set_none, take_none, drop-replicate, mapped-none, timely-none, paid-none, kept-none, length-replicate, unpaid-none, owed-appends)
