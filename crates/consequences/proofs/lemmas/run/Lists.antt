-- Lemmas of lists of events and of debts: that some element has a property, that all have it, or that none has.
use Rattle.std.proofs.Common.{◌≡◌, ◌⊎◌, inl, inr, zero, suc, Bool, true, false, List, [], ◌∷◌, ◌++◌, ◌∙◌, if◌then◌else◌, filter, All, Contains, refl, ap, sym, subst, arith}
use Rattle.std.specs.List.{Any}
use Rattle.std.proofs.lemmas.List.Elements.{All-head, All-contains, Contains-append_left, Contains-append_right, Contains-append_cases}
use Rattle.std.proofs.lemmas.List.Quantifiers.{Any-push}
use Rattle.sip_phases.proofs.debts.DebtLaws.{All-back}
use Rattle.sip_states.proofs.lists.Listed.{Contains-none, Contains-there}

-- what each element has, the last one has
pub All-last : {X : Type 0} (P : X → Type 0) (xs : List X) (x : X) → All P (xs ++ x ∷ []) → P x
All-last P xs x all = All-head P x [] (All-back P xs (x ∷ []) all)

-- where the last element has a property, some element has it
pub any-last : {X : Type 0} (P : X → Type 0) (xs : List X) (x : X) → P x → Any P (xs ++ x ∷ [])
any-last P xs x holds = Any-push P xs x holds

-- where some element of a list has a property, some element of the list with more after it has it
pub any-earlier : {X : Type 0} (P : X → Type 0) (xs ys : List X) → Any P xs → Any P (xs ++ ys)
any-earlier P xs ys any = let (k, x, low, at, holds) = any in let c = Contains-append_left xs ys x (k, low, at) in (c.0, x, c.1, c.2, holds)

-- where no element has a property, it is not so that some element has it
pub any-none : {X : Type 0} (P : X → Type 0) (xs : List X) → All (λ x. ¬ (P x)) xs → ¬ (Any P xs)
any-none P xs none any = let (k, x, low, at, holds) = any in All-contains (λ y. ¬ (P y)) xs x none (k, low, at) holds

-- false is not true
false_true : ¬ (false ≡ true)
false_true is = cc

-- a list has the element between its two parts
pub contains-here : {X : Type 0} (xs ys : List X) (x : X) → Contains (xs ++ x ∷ ys) x
contains-here xs ys x = Contains-append_right xs (x ∷ ys) x (0, omega arith, refl)

-- an element of a list is the one between its two parts, or is in one of the parts
-- y is the element between the parts xs and ys, and x any element of the list
pub contains-cases : {X : Type 0} (xs ys : List X) (y x : X) → Contains (xs ++ y ∷ ys) x → Contains (xs ++ ys) x ⊎ (y ≡ x)
contains-cases xs ys y x c = by (Contains-append_cases xs (y ∷ ys) x c)
  where
    -- after the front x is y itself, or one of the elements after y
    by_rest : Contains (y ∷ []) x ⊎ Contains ys x → Contains (xs ++ ys) x ⊎ (y ≡ x)
    by_rest (inl (zero, low, at)) = inr at
    by_rest (inl (suc k, low, at)) = absurd (omega (arith, low))
    by_rest (inr later) = inl (Contains-append_right xs ys x later)

    -- x is in the two parts together, or it is y: it is in the first part, or from y on
    by : Contains xs x ⊎ Contains (y ∷ ys) x → Contains (xs ++ ys) x ⊎ (y ≡ x)
    by (inl front) = inl (Contains-append_left xs ys x front)
    by (inr rest) = by_rest (Contains-append_cases (y ∷ []) ys x rest)

-- an element of a list that passes the test is in the filtered list
pub contains-filter : {X : Type 0} (p : X → Bool) (xs : List X) (x : X) → p x ≡ true → Contains xs x → Contains (filter p xs) x
contains-filter p [] x passes c = absurd (Contains-none x c)
contains-filter {X} p (y ∷ ys) x passes c = by (p y) refl (contains-filter p ys x passes) (contains-cases [] ys y x c)
  where
    -- x is y, or among the elements that pass, whether or not y passes the test, which b says
    by : (b : Bool) → p y ≡ b → (Contains ys x → Contains (filter p ys) x) → Contains ys x ⊎ (y ≡ x) → Contains (if b then y ∷ filter p ys else filter p ys) x
    by true is among (inl later) = Contains-there y (filter p ys) x (among later)
    by true is among (inr here) = subst (λ z. Contains (z ∷ filter p ys) x) (sym here) (contains-here [] (filter p ys) x)
    by false is among (inl later) = among later
    by false is among (inr here) = absurd (false_true (sym is ∙ ap p here ∙ passes))
