-- When a message may be named by the transactions that an entry concerns.
-- What `Any P xs` says: a place (.0), an element (.1), that the place is in the list (.2), that the element stands there (.3), and that P holds of it (.4).
use Rattle.std.proofs.Common.{◌≡◌, ◌-◌, ◌⊎◌, inl, inr, ℕ, true, false, Some, [], ◌∷◌, List, Contains, slice_get, refl, sym, ◌∙◌, subst, arith}
use Rattle.std.specs.Prelude.{◌↔◌}
use Rattle.std.specs.List.{Any}
use Rattle.std.proofs.lemmas.Bool.{false≢true}
use Rattle.std.proofs.lemmas.List.Elements.{Contains-append_right, Contains-get_or}
use Rattle.sip_machine.proofs.texts.TextLaws.{Contains-cons_cases}
use Rattle.sip_states.specs.Sweep.{SetMayName}
use Rattle.sip_states.specs.Tables.{Tabled}
use Rattle.sip_states.specs.declared.any_set.AnySet.{AnySet}
use Rattle.sip_verdict.specs.declared.concerned.Concerned.{Concerned}
use Rattle.sip_verdict.specs.declared.concerned.Concerned.TheVariants as concerned
use Rattle.sip_verdict.specs.inner.TablesTracking.{MayBeNamed, OneMayName}

-- some element of a list is the first one or one of the rest
any_cases : {X : Type 0} (P : X → Type 0) (x : X) (xs : List X) → Any P (x ∷ xs) → P x ⊎ Any P xs
any_cases P x xs any =
    elim (Contains-cons_cases x xs any.1 (any.0, any.2, any.3)) [
      | inl same ↦ inl (subst P (sym same) any.4)
      | inr rest ↦ inr (rest.0, any.1, rest.1, rest.2, any.4)
    ]

-- what holds of the first element of a list holds of some element
any_first : {X : Type 0} (P : X → Type 0) (x : X) (xs : List X) → P x → Any P (x ∷ xs)
any_first P x xs p = let here = Contains-get_or (x ∷ xs) 0 x (omega arith) in (here.0, x, here.1, here.2, p)

-- what holds of some later element of a list holds of some element
any_rest : {X : Type 0} (P : X → Type 0) (x : X) (xs : List X) → Any P xs → Any P (x ∷ xs)
any_rest P x xs any = let there = Contains-append_right (x ∷ []) xs any.1 (any.0, any.2, any.3) in (there.0, any.1, there.1, there.2, any.4)

-- What follows is of the tables t and one message, by its number.
module _ (t : Tabled) (message : ℕ) where
  -- where an entry concerns no transaction, its message may not be named
  pub none_may : ¬ (MayBeNamed t message concerned.None)
  none_may (inl all) = false≢true all
  none_may (inr any) = omega (arith, any.2)

  -- where the set of a transaction may name the message, the set at its place may
  one_may : (own : ℕ) (set : AnySet) → slice_get t.sets (own - 1) ≡ Some set → OneMayName t message own → SetMayName message set
  one_may own set at may = (let same : Some may.0 ≡ Some set = sym may.1 ∙ at in let one : may.0 ≡ set = cc in subst (SetMayName message) one may.2)

  -- where an entry concerns one transaction, its message may be named just where the set of this one may name it
  pub own_may : (own : ℕ) (set : AnySet) → slice_get t.sets (own - 1) ≡ Some set → SetMayName message set ↔ MayBeNamed t message (concerned.Own own)
  own_may own set at = (
    -- where the set may name it, one of the entry's transactions may; and the other way round, since there is only this one
    λ may. inr (any_first (OneMayName t message) own [] (set, at, may)),
    λ may. elim may [
      | inl all ↦ absurd (false≢true all)
      | inr any ↦ elim (any_cases (OneMayName t message) own [] any) [ inl first ↦ one_may own set at first | inr none ↦ absurd (omega (arith, none.2)) ]
    ],
  )

  -- where an entry concerns two transactions, and the set of the first one may name its message, it may be named
  pub first_may : (own cancelled : ℕ) (set : AnySet) → slice_get t.sets (own - 1) ≡ Some set → SetMayName message set → MayBeNamed t message (concerned.OwnAndCancelled own cancelled)
  first_may own cancelled set at its = inr (any_first (OneMayName t message) own (cancelled ∷ []) (set, at, its))

  -- where an entry concerns two transactions, its message may be named just where the set of one of them may name it
  pub both_may : (own cancelled : ℕ) (one other : AnySet) → slice_get t.sets (own - 1) ≡ Some one → slice_get t.sets (cancelled - 1) ≡ Some other
      → (SetMayName message one ⊎ SetMayName message other) ↔ MayBeNamed t message (concerned.OwnAndCancelled own cancelled)
  both_may own cancelled one other at there = (
    λ may. elim may [
      | inl its ↦ first_may own cancelled one at its
      | inr also ↦ inr (any_rest (OneMayName t message) own (cancelled ∷ []) (any_first (OneMayName t message) cancelled [] (other, there, also)))
    ],
    -- the converse: all may be named, or one of the two
    λ may. elim may [
      | inl all ↦ absurd (false≢true all)
      | inr any ↦ elim (any_cases (OneMayName t message) own (cancelled ∷ []) any) [
        | inl first ↦ inl (one_may own one at first)
        | inr rest ↦ elim (any_cases (OneMayName t message) cancelled [] rest) [ inl second ↦ inr (one_may cancelled other there second) | inr none ↦ absurd (omega (arith, none.2)) ]
      ]
    ],
  )
