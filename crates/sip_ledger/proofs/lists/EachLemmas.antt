-- Lists of which each element from one on changes, after which some of them come once more, or of which some come to the front.
use Rattle.sip_ledger.proofs.Words.{nat_tests, Result, Ok, Err, OnOk, is_err, true≢false, ◌≡◌, ◌<◌, ◌≤◌, ◌⊎◌, inl, inr, ℕ, ◌+◌, ◌-◌, Bool, false, List, [], ◌∷◌, ◌++◌, length, drop, take, get_or, set, map, filter, refl, ap, sym, ◌∙◌, arith, cond, append-nil, drop-take, drop_all, get_or-drop, length-append, length-drop, length-map, length-take, take-append-drop, take-append-le, take-take, take_all, All-drop, filter_more, map_fixed, from_to, All, cases_eq, cases_lt, length-set, get_or-map, get_or_default, get_or-set_same, get_or-set_other, get_or-take, length-take-le, same_lists, All-get_or, Rise, suc, zero}

-- what a result that is no error tells holds
pub on_ok : {T E : Type 0} (r : Result T E) (P : Type 0) → is_err r ≡ false → OnOk r P → P
on_ok (Ok x) P is ok = ok
on_ok (Err e) P is ok = absurd (true≢false is)

-- each number of a list that rises is at least its place in the list
pub rise-above : (places : List ℕ) (i : ℕ) → Rise places → i < length places → i ≤ get_or places i 0
rise-above places zero rise inside = omega arith
rise-above places (suc i) rise inside = omega (arith, rise-above places i rise (omega (arith, inside)), rise i (suc i) (omega arith) inside)

-- the elements at the first `to` places stand at the front, and the list is as it was from there on
pub record IsKeptTo {X : Type 0} (d : X) (places : List ℕ) (to : ℕ) (old new : List X) : Type 0 where
  pub long : length new ≡ length old
  pub front : (k : ℕ) → k < to → get_or new k d ≡ get_or old (get_or places k 0) d
  pub rest : (k : ℕ) → to ≤ k → get_or new k d ≡ get_or old k d

-- a list that rises, and whose numbers are below n, has at most n numbers
pub rise-few : (places : List ℕ) (n : ℕ) → Rise places → All (λ place. place < n) places → length places ≤ n
rise-few places n rise within = grind (arith, nat_tests, cases_lt, rise-above, All-get_or)

-- where the element at the next place is moved to the front as well, one element more stands there
pub kept-more : {X : Type 0} (d : X) (places : List ℕ) (to : ℕ) (old new : List X) → IsKeptTo d places to old new → Rise places → to < length places →
    All (λ place. place < length old) places → IsKeptTo d places (to + 1) old (set new to (get_or new (get_or places to 0) d))
kept-more d places to old new was rise inside within = grind (arith, nat_tests, rise-above, All-get_or, length-set, cases_eq, get_or-set_same, get_or-set_other)

-- where the elements at all places stand at the front, the front of as many is the list of them
pub kept-all : {X : Type 0} (d : X) (places : List ℕ) (to : ℕ) (old new : List X) → IsKeptTo d places to old new → length places ≤ to → length places ≤ length old →
    take (length places) new ≡ map (λ place. get_or old place d) places
kept-all d places to old new was done few =
    same_lists (take (length places) new) (map (λ place. get_or old place d) places) (grind (arith, nat_tests, length-take-le, length-map)) (λ k e below.
    let size = length-take-le (length places) new (omega (arith, few, was.long)) in
    grind (arith, nat_tests, size, get_or-take, get_or_default new k e d, get_or-map, was.front k))

-- What follows is of lists of any elements.
module _ {X : Type 0} where
  -- the list with the elements from one index up to another changed by f
  abbrev pub changing : (X → X) → ℕ → ℕ → List X → List X
  changing f from k xs = take from xs ++ map f (from_to from k xs) ++ drop k xs

  -- where the element at k is changed as well, the elements up to the next index are changed
  -- an empty list has no element at k; in any other the changes begin at the first element, or at a later one
  changing-next : (f : X → X) (from k : ℕ) (xs : List X) (d : X) → from ≤ k → k < length xs →
      set (changing f from k xs) k (f (get_or (changing f from k xs) k d)) ≡ changing f from (suc k) xs
  changing-next f from k [] d le low = absurd (omega (arith, low))
  changing-next f zero zero (x ∷ xs) d le low = refl
  changing-next f zero (suc k) (x ∷ xs) d le low = ap (λ ys. f x ∷ ys) (changing-next f zero k xs d (omega arith) (omega (arith, low)))
  changing-next f (suc from) zero (x ∷ xs) d le low = absurd (omega (arith, le))
  changing-next f (suc from) (suc k) (x ∷ xs) d le low = ap (λ ys. x ∷ ys) (changing-next f from k xs d (omega (arith, le)) (omega (arith, low)))

  -- where the element at k is changed as well, the elements up to k + 1 are changed
  pub changing-more : (f : X → X) (from k : ℕ) (xs : List X) (d : X) → from ≤ k → k < length xs →
      set (changing f from k xs) k (f (get_or (changing f from k xs) k d)) ≡ changing f from (k + 1) xs
  changing-more f from k xs d le low = grind (arith, nat_tests, changing-next)

  -- a list of which some elements are changed is as long as before
  pub changing-length : (f : X → X) (from k : ℕ) (xs : List X) → from ≤ k → length (changing f from k xs) ≡ length xs
  changing-length f from k xs le = grind (arith, nat_tests, length-append, length-map, length-take, length-drop)

  -- where the changes reach the end of the list, all its elements from one on are changed
  pub changing-all : (f : X → X) (from k : ℕ) (xs : List X) → length xs ≤ k → changing f from k xs ≡ take from xs ++ map f (drop from xs)
  changing-all f from k xs le = grind (arith, nat_tests, take_all, drop_all, append-nil)

  -- the elements before those that are changed stay
  pub changing-front : (f : X → X) (from k : ℕ) (xs : List X) → from ≤ k → take from (changing f from k xs) ≡ take from xs
  changing-front f from k xs le = grind (arith, nat_tests, take-append-le, take-take, take_all, drop_all, append-nil, length-take, length-append, length-map, length-drop)

  -- where f changes no element of a list, the list is the one with all elements from one on changed
  pub unchanged-each : (f : X → X) (from : ℕ) (xs : List X) → ((k : ℕ) (d : X) → k < length xs → f (get_or xs k d) ≡ get_or xs k d) → xs ≡ take from xs ++ map f (drop from xs)
  unchanged-each f from xs each = sym (take-append-drop from xs) ∙ ap (λ l. take from xs ++ l) (sym (map_fixed f (drop from xs) (All-drop (λ x. f x ≡ x) from xs each)))

  -- those that pass a test up to k + 1 are those up to k, and the element at k if it passes
  pub passing-more : (p : X → Bool) (from k : ℕ) (xs : List X) (d : X) → from ≤ k → k < length xs →
      filter p (from_to from (k + 1) xs) ≡ filter p (from_to from k xs) ++ cond (p (get_or xs k d)) (get_or xs k d ∷ []) []
  passing-more p from k xs d le low =
      let here : from + (k - from) ≡ k = omega (arith, le) in
      grind (arith, here, filter_more p (drop from xs) (k - from) d, drop-take from (k - from) xs, drop-take from (k - from + 1) xs, get_or-drop from xs (k - from) d, length-drop from xs)

  -- where the loop ended at k, which is `to`, or `from` where that is after `to`, the elements up to k are those up to `to`
  pub from_to-end : (from to k : ℕ) (xs : List X) → from ≤ k → to ≤ k → k ≤ to ⊎ k ≤ from → from_to from k xs ≡ from_to from to xs
  from_to-end from to k xs le past (inl within) = let same : k ≡ to = omega (arith, past, within) in ap (λ n. from_to from n xs) same
  from_to-end from to k xs le past (inr none) = grind (arith, nat_tests, drop_all, length-take)
