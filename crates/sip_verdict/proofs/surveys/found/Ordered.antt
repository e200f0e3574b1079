-- Two lists in a strict order that have the same elements are the same.
-- In the lemmas x and y, or u and v, are elements of a list, and R and S are orders.
use Rattle.std.proofs.Common.{◌≡◌, ◌⊎◌, inl, inr, List, [], ◌∷◌, ◌++◌, AllPairs, Contains, get_or, map, refl, sym, ap₂, ◌∙◌, subst, arith}
use Rattle.std.proofs.lemmas.List.Elements.{All-contains, All-append, All-map, All-weaker, Contains-get_or}
use Rattle.std.proofs.lemmas.List.Kept.{AllPairs-cons}
use Rattle.sip_standard.proofs.Few.{AllPairs-head, AllPairs-tail}
use Rattle.sip_states.proofs.lists.Listed.{Contains-none, Contains-here, Contains-there, Contains-cons}

-- What follows is of lists of which each element is in the relation R to those after it.
module _ {A : Type 0} (R : A → A → Type 0) where
  -- two lists in order, of which each element of the second comes after each of the first, are in order one after the other
  -- xs and ys are the lists, and R says that x comes before y
  pub ordered_append : (xs ys : List A) → AllPairs R xs → AllPairs R ys → ((x y : A) → Contains xs x → Contains ys y → R x y) → AllPairs R (xs ++ ys)
  ordered_append [] ys a b across = b
  ordered_append (x ∷ xs) ys a b across =
      AllPairs-cons R x (xs ++ ys)
      (All-append (R x) xs ys (AllPairs-head R x xs a) (λ k d low. across x (get_or ys k d) (Contains-here x xs) (Contains-get_or ys k d low)))
      (ordered_append xs ys (AllPairs-tail R x xs a) b (λ u v h. across u v (Contains-there x xs u h)))

  -- the first element of a list in order comes before each of the others
  pub first_before : (x : A) (xs : List A) → AllPairs R (x ∷ xs) → (y : A) → Contains xs y → R x y
  first_before x xs sorted y h = All-contains (R x) xs y (AllPairs-head R x xs sorted) h

-- the image of a list in order, under a function that keeps the order, is in order
pub ordered_map : {A B : Type 0} (R : A → A → Type 0) (S : B → B → Type 0) (f : A → B) → ((a b : A) → R a b → S (f a) (f b)) → (xs : List A) → AllPairs R xs → AllPairs S (map f xs)
ordered_map R S f keeps [] sorted = λ i j d low high. absurd (omega (arith, high))
ordered_map R S f keeps (x ∷ xs) sorted =
    AllPairs-cons S (f x) (map f xs) (All-map (S (f x)) f xs (All-weaker (R x) (λ a. S (f x) (f a)) (keeps x) xs (AllPairs-head R x xs sorted)))
    (ordered_map R S f keeps xs (AllPairs-tail R x xs sorted))

-- What follows is of lists in the order R, where no two elements can stand in R both ways.
module _ {A : Type 0} (R : A → A → Type 0) (once : (a b : A) → R a b → R b a → ⊥) where
  -- lists in order with the same elements are the same
  pub ordered_one : (xs ys : List A) → AllPairs R xs → AllPairs R ys → ((a : A) → Contains xs a → Contains ys a) → ((a : A) → Contains ys a → Contains xs a) → xs ≡ ys
  ordered_one [] [] a b to from = refl
  -- an element of the one list would be in the other, which is empty
  ordered_one [] (y ∷ ys) a b to from = absurd (Contains-none y (from y (Contains-here y ys)))
  ordered_one (x ∷ xs) [] a b to from = absurd (Contains-none x (to x (Contains-here x xs)))
  ordered_one (x ∷ xs) (y ∷ ys) a b to from =
      ap₂ (λ h t. h ∷ t) same (ordered_one xs ys (AllPairs-tail R x xs a) (AllPairs-tail R y ys b) forth back)
    where
      -- the first elements of both lists are the same, since neither comes before the other
      -- one of them is the first of the other list too; else each is a later one of the other list, so that each would come before the other
      by : (y ≡ x) ⊎ Contains ys x → (x ≡ y) ⊎ Contains xs y → x ≡ y
      by (inl e) h = sym e
      by (inr h) (inl e) = e
      by (inr h) (inr k) = absurd (once y x (first_before R y ys b x h) (first_before R x xs a y k))

      -- the first elements of both lists are the same
      same : x ≡ y
      same = by (Contains-cons y ys x (to x (Contains-here x xs))) (Contains-cons x xs y (from y (Contains-here y ys)))

      -- no element comes before itself
      apart : (u v : A) → u ≡ v → R u v → ⊥
      apart u v is low = once u u (subst (R u) (sym is) low) (subst (R u) (sym is) low)

      -- f is not y, so it is one of the others
      forth_by : (f : A) → Contains xs f → (y ≡ f) ⊎ Contains ys f → Contains ys f
      forth_by f h (inr k) = k
      forth_by f h (inl e) = absurd (apart x f (same ∙ e) (first_before R x xs a f h))

      -- an element after the first of the one list is after the first of the other
      forth : (f : A) → Contains xs f → Contains ys f
      forth f h = forth_by f h (Contains-cons y ys f (to f (Contains-there x xs f h)))

      -- the element is the first one of the one list, or a later one
      back_by : (f : A) → Contains ys f → (x ≡ f) ⊎ Contains xs f → Contains xs f
      back_by f h (inr k) = k
      back_by f h (inl e) = absurd (apart y f (sym same ∙ e) (first_before R y ys b f h))

      -- an element after the first of the other list is after the first of the one
      back : (f : A) → Contains ys f → Contains xs f
      back f h = back_by f h (Contains-cons x xs f (from f (Contains-there y ys f h)))
