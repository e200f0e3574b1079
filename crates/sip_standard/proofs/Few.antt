-- A pigeonhole: a list holds no more elements that all differ than it has places.
use Rattle.std.proofs.Common.{◌≡◌, ◌≢◌, ◌≤◌, ◌<◌, ◌∙◌, ℕ, zero, suc, List, [], ◌∷◌, All, AllPairs, Contains, length, get_or, sym, arith, remove, add-one, ap}
use Rattle.std.proofs.Math.Decide.{dec_lt}
use Rattle.std.proofs.lemmas.List.{get_or_default}
use Rattle.std.proofs.lemmas.List.Elements.{All-head, All-tail}
use Rattle.std.proofs.lemmas.List.Edits.{length-remove, get_or-remove_below, get_or-remove_above}

-- the first of a list differs from each of the others
pub AllPairs-head : {X : Type 0} (R : X → X → Type 0) (x : X) (xs : List X) → AllPairs R (x ∷ xs) → All (R x) xs
AllPairs-head R x xs apart k d low = apart 0 (suc k) d (omega arith) (omega arith)

-- the elements after the first differ from one another
pub AllPairs-tail : {X : Type 0} (R : X → X → Type 0) (x : X) (xs : List X) → AllPairs R (x ∷ xs) → AllPairs R xs
AllPairs-tail R x xs apart i j d low high = apart (suc i) (suc j) d (omega arith) (omega arith)

-- What follows is of a list from which its element x at the place i is removed.
module _ {X : Type 0} (xs : List X) (i : ℕ) (within : i < length xs) (x : X) where
  -- an element before the place that is removed stays where it is
  before_it : (k : ℕ) → k < i → get_or xs k x ≡ x → Contains (remove xs i) x
  before_it k low at =
      let long = length-remove xs i within in (k, omega (arith, long), get_or-remove_below xs i x k low within ∙ at)

  -- an element after the place that is removed moves up by one place
  after_it : (k : ℕ) → i < k → k < length xs → get_or xs k x ≡ x → Contains (remove xs i) x
  after_it zero high low at = absurd (omega arith)
  after_it (suc j) high low at =
      let long = length-remove xs i within in
      (j, omega (arith, long), get_or-remove_above xs i x j (omega arith) within ∙ rw add-one at)

  -- each element that differs from the one that is removed stays in the list
  pub still_has : (y : X) → get_or xs i y ≡ y → y ≢ x → Contains xs x → Contains (remove xs i) x
  still_has y is differs (k, low, at) = go (dec_lt k i) (dec_lt i k)
    where
      -- the place k is before i, after it, or i itself
      go : Dec (k < i) → Dec (i < k) → Contains (remove xs i) x
      go (yes before) _ = before_it k before at
      go (no _) (yes after) = after_it k after low at
      go (no not_before) (no not_after) =
          let same : k ≡ i = omega arith in
          absurd (differs (sym is ∙ get_or_default xs i y x within ∙ ap (λ n. get_or xs n x) (sym same) ∙ at))

-- elements that all differ, each of them in another list, are at most as many as that list has
pub distinct_few : {X : Type 0} (ys xs : List X) → AllPairs (λ x y. x ≢ y) ys → All (Contains xs) ys → length ys ≤ length xs
distinct_few [] xs apart each = omega arith
distinct_few (y ∷ ys) xs apart each =
    -- y stands at the place i of xs, and the other elements of ys stand in xs without that place
    let (i, within, is) = All-head (Contains xs) y ys each in
    let rest : All (Contains (remove xs i)) ys =
    λ k d low. still_has xs i within (get_or ys k d) y is (AllPairs-head (λ a b. a ≢ b) y ys apart k d low) (All-tail (Contains xs) y ys each k d low) in
    let fewer = distinct_few ys (remove xs i) (AllPairs-tail (λ a b. a ≢ b) y ys apart) rest in
    omega (arith, fewer, length-remove xs i within)
