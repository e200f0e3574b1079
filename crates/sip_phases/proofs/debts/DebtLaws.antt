-- Lists without the first element of which something holds, and the least of moments.
-- In the lemmas ys are the elements of xs without the first of which P holds; t and m are moments, and ms are others.
use Rattle.std.specs.Prelude.{◌≡◌, ◌≤◌, ◌↔◌, ℕ, Bool, true, false, Some, None, option_to_list, List, [], ◌∷◌, ◌++◌, All, filter, map, min}
use Rattle.std.specs.List.{fold}
use Rattle.std.proofs.Common.{refl, sym, ◌∙◌, ap, ap₂, subst, arith, cond}
use Rattle.std.proofs.lemmas.List.{map-append}
use Rattle.std.proofs.lemmas.List.Elements.{All-head, All-tail, All-nil, All-cons, All-map, All-append, All-weaker}
use Rattle.sip_times.specs.Limits.{IsWithin}
use Rattle.sip_standard.specs.Debts.{IsWithoutFirst}
use Rattle.sip_ledger.specs.Debts.{earliest}

-- to map a list, before which x stands if b is true, is to map the list and put f x before it if b is true
map-cond : {X Y : Type 0} (f : X → Y) (b : Bool) (x : X) (xs : List X) → cond b (f x ∷ map f xs) (map f xs) ≡ map f (cond b (x ∷ xs) xs)
map-cond f true x xs = refl
map-cond f false x xs = refl

-- to map a list and then keep what passes p is to keep the elements that f maps to what passes, and then map them
pub filter-map : {X Y : Type 0} (f : X → Y) (p : Y → Bool) (xs : List X) → filter p (map f xs) ≡ map f (filter (λ x. p (f x)) xs)
filter-map f p [] = refl
filter-map f p (x ∷ xs) =
    ap (λ ys. cond (p (f x)) (f x ∷ ys) ys) (filter-map f p xs) ∙ map-cond f (p (f x)) x (filter (λ x. p (f x)) xs)

-- two lists that are the same are the same without their first element of which P holds
same_without : {X : Type 0} (P : X → Type 0) (before before' : List X) (first first' : X) (after after' : List X) →
    before ++ first ∷ after ≡ before' ++ first' ∷ after' → P first → P first' →
    All (λ x. ¬ (P x)) before → All (λ x. ¬ (P x)) before' → before ++ after ≡ before' ++ after'
-- both begin with the first element of which P holds
same_without P [] [] first first' after after' e p p' none none' = cc
-- only one of them does, which cannot be
same_without P [] (x ∷ before') first first' after after' e p p' none none' =
    let here : first ≡ x = cc in absurd (All-head (λ x. ¬ (P x)) x before' none' (subst P here p))
same_without P (x ∷ before) [] first first' after after' e p p' none none' =
    let here : first' ≡ x = cc in absurd (All-head (λ x. ¬ (P x)) x before none (subst P here p'))
-- both lists begin with the same element, of which P does not hold
same_without P (x ∷ before) (x' ∷ before') first first' after after' e p p' none none' =
    let here : x ≡ x' = cc in
    let more : before ++ first ∷ after ≡ before' ++ first' ∷ after' = cc in
    ap₂ (λ y ys. y ∷ ys) here (same_without P before before' first first' after after' more p p'
    (All-tail (λ x. ¬ (P x)) x before none) (All-tail (λ x. ¬ (P x)) x' before' none'))

-- a list has one rest without its first element of which P holds
pub IsWithoutFirst-same : {X : Type 0} (P : X → Type 0) (xs ys zs : List X) → IsWithoutFirst P xs ys → IsWithoutFirst P xs zs → ys ≡ zs
IsWithoutFirst-same P xs ys zs a b =
    a.rest ∙ same_without P a.before b.before a.first b.first a.after b.after (sym a.whole ∙ b.whole) a.holds b.holds a.none_before b.none_before ∙ sym b.rest

-- what each element of two lists in a row has, each of the first list has
pub All-front : {X : Type 0} (P : X → Type 0) (xs ys : List X) → All P (xs ++ ys) → All P xs
All-front P [] ys all = All-nil P
All-front P (x ∷ xs) ys all = All-cons P x xs (All-head P x (xs ++ ys) all) (All-front P xs ys (All-tail P x (xs ++ ys) all))

-- what each element of two lists in a row has, each of the second list has
pub All-back : {X : Type 0} (P : X → Type 0) (xs ys : List X) → All P (xs ++ ys) → All P ys
All-back P [] ys all = all
All-back P (x ∷ xs) ys all = All-back P xs ys (All-tail P x (xs ++ ys) all)

-- where P and Q hold of each element, R does where it follows from both
both : {X : Type 0} (P Q R : X → Type 0) → ((x : X) → P x → Q x → R x) → (xs : List X) → All P xs → All Q xs → All R xs
both P Q R f xs p q = λ k d low. f _ (p k d low) (q k d low)

-- where Q of an element is P of what f gives of it, f gives of a list without the first of Q one without the first of P
pub IsWithoutFirst-map : {X Y : Type 0} (f : X → Y) (Q : X → Type 0) (P : Y → Type 0) (xs ys : List X) →
    All (λ x. Q x ↔ P (f x)) xs → IsWithoutFirst Q xs ys → IsWithoutFirst P (map f xs) (map f ys)
IsWithoutFirst-map {X} f Q P xs ys same a =
    -- what holds of all elements holds of those before the first, and of the first
    let halves : All (λ x. Q x ↔ P (f x)) (a.before ++ a.first ∷ a.after) = subst (All (λ x. Q x ↔ P (f x))) a.whole same in
    let here = All-head (λ x. Q x ↔ P (f x)) a.first a.after (All-back (λ x. Q x ↔ P (f x)) a.before (a.first ∷ a.after) halves) in
    let front = All-front (λ x. Q x ↔ P (f x)) a.before (a.first ∷ a.after) halves in
    -- what f gives of each part of xs is the same part of what f gives of xs
    record {
      before = map f a.before;
      first = f a.first;
      after = map f a.after;
      whole = ap (map f) a.whole ∙ map-append f a.before (a.first ∷ a.after);
      holds = here.0 a.holds;
      -- none before the first has P, and the rest is mapped
      none_before = All-map (λ y. ¬ (P y)) f a.before
          (both (λ x. ¬ (Q x)) (λ x. Q x ↔ P (f x)) (λ x. ¬ (P (f x))) (λ x none iff p. none (iff.1 p)) a.before a.none_before front);
      rest = ap (map f) a.rest ∙ map-append f a.before a.after;
    }

-- where P holds of no element, no list is the list without the first of which P holds
pub IsWithoutFirst-none : {X : Type 0} (P : X → Type 0) (xs ys : List X) → All (λ x. ¬ (P x)) xs → IsWithoutFirst P xs ys → ⊥
IsWithoutFirst-none P xs ys none a =
    let halves : All (λ x. ¬ (P x)) (a.before ++ a.first ∷ a.after) = subst (All (λ x. ¬ (P x))) a.whole none in
    All-head (λ x. ¬ (P x)) a.first a.after (All-back (λ x. ¬ (P x)) a.before (a.first ∷ a.after) halves) a.holds

-- what holds of all elements holds of those that are left without the first of which P holds
pub All-without : {X : Type 0} (P Q : X → Type 0) (xs ys : List X) → IsWithoutFirst P xs ys → All Q xs → All Q ys
All-without P Q xs ys a all =
    let halves : All Q (a.before ++ a.first ∷ a.after) = subst (All Q) a.whole all in
    subst (All Q) (sym a.rest) (All-append Q a.before a.after (All-front Q a.before (a.first ∷ a.after) halves)
    (All-tail Q a.first a.after (All-back Q a.before (a.first ∷ a.after) halves)))

-- the least of a moment and others is not after the moment
fold-min_first : (a : ℕ) (ms : List ℕ) → fold min a ms ≤ a
fold-min_first a [] = omega arith
fold-min_first a (m ∷ ms) = let low = fold-min_first (min a m) ms in omega (arith, low)

-- the least of a moment and others is not after any of the others
fold-min_all : (a : ℕ) (ms : List ℕ) → All (λ m. fold min a ms ≤ m) ms
fold-min_all a [] = All-nil (λ m. a ≤ m)
fold-min_all a (m ∷ ms) =
    let low = fold-min_first (min a m) ms in
    All-cons (λ n. fold min (min a m) ms ≤ n) m ms (omega (arith, low)) (fold-min_all (min a m) ms)

-- where t is not after a moment and not after any of others, it is not after the least of all
fold-min_above : (t a : ℕ) (ms : List ℕ) → t ≤ a → All (λ m. t ≤ m) ms → t ≤ fold min a ms
fold-min_above t a [] low all = low
fold-min_above t a (m ∷ ms) low all =
    let here = All-head (λ m. t ≤ m) m ms all in
    fold-min_above t (min a m) ms (omega (arith, low, here)) (All-tail (λ m. t ≤ m) m ms all)

-- a moment is within the earliest of others exactly if it is past none of them
pub IsWithin-earliest : (t : ℕ) (ms : List ℕ) → IsWithin t (earliest ms) ↔ All (λ m. t ≤ m) ms
-- of no moments none is past
IsWithin-earliest t [] = (λ _. All-nil (λ m. t ≤ m), λ _. tt)
IsWithin-earliest t (m ∷ ms) = (
  -- if: t is not after the least of m and ms, and so after none of them
  λ within.
      let low = fold-min_first m ms in
      All-cons (λ m. t ≤ m) m ms (omega (arith, within, low))
      (All-weaker (λ n. fold min m ms ≤ n) (λ n. t ≤ n) (λ n least. omega (arith, within, least)) ms (fold-min_all m ms)),
  -- only if: the least of them is one of them
  λ all. fold-min_above t m ms (All-head (λ m. t ≤ m) m ms all) (All-tail (λ m. t ≤ m) m ms all),
)

-- the least of a, b and other moments is the lesser of a and of the least of b and the others
fold-min : (a b : ℕ) (ms : List ℕ) → fold min (min a b) ms ≡ min a (fold min b ms)
fold-min a b [] = refl
fold-min a b (m ∷ ms) =
    let assoc : min (min a b) m ≡ min a (min b m) = omega arith in ap (λ c. fold min c ms) assoc ∙ fold-min a (min b m) ms

-- the earliest of a moment and others is the earlier of that moment and of the earliest of the others
pub earliest-option : (m : ℕ) (ms : List ℕ) → earliest (m ∷ option_to_list (earliest ms)) ≡ earliest (m ∷ ms)
earliest-option m [] = refl
earliest-option m (n ∷ ms) = ap Some (sym (fold-min m n ms))

-- the least of a moment and two lists is found by taking the least of the moment and the first list, and then that with the second
fold-append : (a : ℕ) (xs ys : List ℕ) → fold min a (xs ++ ys) ≡ fold min (fold min a xs) ys
fold-append a [] ys = refl
fold-append a (x ∷ xs) ys = fold-append (min a x) xs ys

-- the earliest of two lists is the earlier of the earliest of each; that of the first is m, so the list is not empty
pub earliest-some : (m : ℕ) (xs ys : List ℕ) → Some m ≡ earliest xs → earliest (m ∷ option_to_list (earliest ys)) ≡ earliest (xs ++ ys)
earliest-some m [] ys e = cc
earliest-some m (x ∷ xs) ys e =
    let same : m ≡ fold min x xs = cc in
    earliest-option m ys ∙ ap (λ n. Some (fold min n ys)) same ∙ ap Some (sym (fold-append x xs ys))

-- where the first list has no least element, and so is empty, the least of both lists is that of the second
pub earliest-none : (xs ys : List ℕ) → None ≡ earliest xs → earliest ys ≡ earliest (xs ++ ys)
earliest-none [] ys e = refl
earliest-none (x ∷ xs) ys e = cc

-- where Q and P hold of the same elements, a list without the first of Q is one without the first of P
pub IsWithoutFirst-alike : {X : Type 0} (Q P : X → Type 0) (xs ys : List X) → All (λ x. Q x ↔ P x) xs → IsWithoutFirst Q xs ys → IsWithoutFirst P xs ys
IsWithoutFirst-alike Q P xs ys same a =
    -- what holds of all elements holds of those before the first, and of the first
    let halves : All (λ x. Q x ↔ P x) (a.before ++ a.first ∷ a.after) = subst (All (λ x. Q x ↔ P x)) a.whole same in
    let here = All-head (λ x. Q x ↔ P x) a.first a.after (All-back (λ x. Q x ↔ P x) a.before (a.first ∷ a.after) halves) in
    let front = All-front (λ x. Q x ↔ P x) a.before (a.first ∷ a.after) halves in
    record {
      before = a.before;
      first = a.first;
      after = a.after;
      whole = a.whole;
      -- Q holds of the first debt, so P does, and P holds of none before it
      holds = here.0 a.holds;
      none_before = both (λ x. ¬ (Q x)) (λ x. Q x ↔ P x) (λ x. ¬ (P x)) (λ x none iff p. none (iff.1 p)) a.before a.none_before front;
      rest = a.rest;
    }
