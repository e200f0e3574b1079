-- Lemmas of what is in a list, in its image under a function, and in what a filter keeps of it.
-- In the lemmas x and y are elements of a list, or y is what f gives of x.
use Rattle.std.proofs.Common.{◌≡◌, ◌↔◌, ◌∙◌, ◌⊎◌, inl, inr, zero, suc, List, [], ◌∷◌, Contains, ◌≤◌, length, filter, Bool, true, false, cond, not, map, refl, sym, ap, arith}
use Rattle.std.proofs.lemmas.List.{get_or-map, length-map}
use Rattle.std.proofs.lemmas.List.Filters.{length-filter_both}

-- an empty list has no element
pub Contains-none : {X : Type 0} (x : X) → Contains [] x → ⊥
Contains-none x (k, low, is) = omega arith

-- a list has its first element
pub Contains-here : {X : Type 0} (x : X) (xs : List X) → Contains (x ∷ xs) x
Contains-here x xs = (0, omega arith, refl)

-- a list has each element that its rest has
pub Contains-there : {X : Type 0} (y : X) (xs : List X) (x : X) → Contains xs x → Contains (y ∷ xs) x
Contains-there y xs x (k, low, is) = (suc k, omega arith, is)

-- each element of a list is its first one, or one of its rest
pub Contains-cons : {X : Type 0} (y : X) (xs : List X) (x : X) → Contains (y ∷ xs) x → (y ≡ x) ⊎ Contains xs x
Contains-cons y xs x (zero, low, is) = inl is
Contains-cons y xs x (suc k, low, is) = inr (k, omega arith, is)

-- the only element of a list of one element is that one
pub Contains-single : {X : Type 0} (x y : X) → Contains (x ∷ []) y ↔ (y ≡ x)
Contains-single x y =
    (λ h. elim (Contains-cons x [] y h) [ inl e ↦ sym e | inr none ↦ absurd (Contains-none y none) ], λ e. rw e (Contains-here x []))

-- What follows is of a list and its image by f.
module _ {X Y : Type 0} (f : X → Y) where
  -- the image of an element is in the image of the list
  pub Contains-map : (xs : List X) (x : X) → Contains xs x → Contains (map f xs) (f x)
  Contains-map xs x (k, low, is) = (k, rw length-map low, get_or-map f xs k x (f x) low ∙ ap f is)

  -- what is in the image of a list is the image of an element
  pub Contains-from_map : (xs : List X) (y : Y) → Contains (map f xs) y → (x : X) × Contains xs x × (f x ≡ y)
  Contains-from_map [] y h = absurd (Contains-none y h)
  Contains-from_map (x ∷ xs) y h = go (Contains-cons (f x) (map f xs) y h) (Contains-from_map xs y)
    where
      -- y is f of an element of the list: of the first, or of one after it
      go : (f x ≡ y) ⊎ Contains (map f xs) y → (Contains (map f xs) y → (z : X) × Contains xs z × (f z ≡ y)) → (z : X) × Contains (x ∷ xs) z × (f z ≡ y)
      go (inl e) rest = (x, Contains-here x xs, e)
      go (inr h') rest = let (z, there, e) = rest h' in (z, Contains-there x xs z there, e)

-- What follows is of one element x, and of the lists of those elements that pass a test.
module _ {X : Type 0} (test : X → Bool) (x : X) where
  -- what a filter keeps is in the list and passes the test
  kept : (xs : List X) → Contains (filter test xs) x → Contains xs x × (test x ≡ true)
  kept [] h = absurd (Contains-none x h)
  kept (y ∷ ys) h = step (test y) refl (kept ys) h
    where
      -- x is in the list and passes the test, whether or not y passes it; b says whether y does
      step : (b : Bool) → test y ≡ b → (Contains (filter test ys) x → Contains ys x × (test x ≡ true)) → Contains (cond b (y ∷ filter test ys) (filter test ys)) x →
          Contains (y ∷ ys) x × (test x ≡ true)
      -- the first element passes and is kept, or it is left out
      step true e rest h' =
          elim (Contains-cons y (filter test ys) x h') [
            | inl same ↦ (rw (← same) (Contains-here y ys), ap test (sym same) ∙ e)
            | inr later ↦ let r = rest later in (Contains-there y ys x r.0, r.1)
          ]
      step false e rest h' = let r = rest h' in (Contains-there y ys x r.0, r.1)

  -- what is in the list and passes the test is kept by the filter
  keeps : (xs : List X) → Contains xs x → test x ≡ true → Contains (filter test xs) x
  keeps [] h passes = absurd (Contains-none x h)
  keeps (y ∷ ys) h passes = step (test y) refl (Contains-cons y ys x h) (λ later. keeps ys later passes)
    where
      -- x is among the elements that pass, whether or not y passes the test; b says whether y does
      step : (b : Bool) → test y ≡ b → (y ≡ x) ⊎ Contains ys x → (Contains ys x → Contains (filter test ys) x) → Contains (cond b (y ∷ filter test ys) (filter test ys)) x
      step true e (inl same) rest = rw (← same) (Contains-here y (filter test ys))
      step true e (inr later) rest = Contains-there y (filter test ys) x (rest later)
      step false e (inl same) rest = absurd (cc (ap test same))
      step false e (inr later) rest = rest later

  -- a filter keeps exactly the elements of the list that pass the test
  pub Contains-filter : (xs : List X) → Contains (filter test xs) x ↔ (Contains xs x × (test x ≡ true))
  Contains-filter xs = (kept xs, λ h. keeps xs h.0 h.1)

-- a filter keeps no more elements than the list has
pub filter_shorter : {X : Type 0} (test : X → Bool) (xs : List X) → length (filter test xs) ≤ length xs
filter_shorter test xs = omega (arith, length-filter_both test (λ x. not (test x)) (λ x. refl) xs)
