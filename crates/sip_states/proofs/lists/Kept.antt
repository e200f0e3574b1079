-- What is left of a list of which flagged elements are kept: how a loop moves each of them to the front, and where each stands then.
-- In the lemmas x is the element at the place i and b its flag; ys is what the loop has made of the list xs so far, of which k elements are kept.
-- es are pairs of a key and a value.
use Rattle.std.proofs.Common.{◌≡◌, ◌≢◌, ◌≤◌, ◌<◌, ◌+◌, ℕ, zero, suc, Bool, true, false, Some, List, [], ◌∷◌, ◌++◌, All, length, take, drop, get_or, refl, sym, ap, ap₂, ◌∙◌, ◌-◌, arith, append_assoc, append-nil}
use Rattle.std.specs.Prelude.{min, swap, slice_get, slice_set}
use Rattle.std.proofs.Math.Decide.{dec_le}
use Rattle.std.proofs.lemmas.Option.{get_or_from_slice_get, slice_get_within, slice_get-get_or}
use Rattle.std.specs.Map.{keys_of, values_of}
use Rattle.std.proofs.lemmas.List.{take_more, drop_more, drop_all, same_lists, length-take-le, length-drop, get_or-take, get_or-drop}
use Rattle.std.proofs.lemmas.List.Edits.{length-swap, swapped_from_swap}
use Rattle.sip_states.specs.Kept.{kept_of}

-- What follows is of the elements of a list whose flag is set.
module _ {X : Type 0} where
  -- what is kept from the place i on is what is kept of the element there, and of those after it
  kept_more : (flags : List Bool) (xs : List X) (i : ℕ) (b : Bool) (x : X) → i < length flags → i < length xs → b ≡ get_or flags i b → x ≡ get_or xs i x
      → kept_of (drop i flags) (drop i xs) ≡ kept_of (b ∷ drop (i + 1) flags) (x ∷ drop (i + 1) xs)
  kept_more flags xs i b x low within flag is =
      ap₂ kept_of (drop_more flags i b low ∙ ap (λ c. c ∷ drop (i + 1) flags) (sym flag)) (drop_more xs i x within ∙ ap (λ y. y ∷ drop (i + 1) xs) (sym is))

  -- nothing is kept of an empty list
  kept_none : (flags : List Bool) → kept_of {X = X} flags [] ≡ []
  kept_none [] = refl
  kept_none (b ∷ flags) = refl

  -- nothing is kept from the place i on where the flags or the elements end before it
  pub kept_end : (flags : List Bool) (xs : List X) (i : ℕ) → min (length flags) (length xs) ≤ i → kept_of (drop i flags) (drop i xs) ≡ []
  kept_end flags xs i past = by (dec_le (length flags) i)
    where
      -- nothing is kept from place i on, since the flags or the elements end before it
      by : Dec (length flags ≤ i) → kept_of (drop i flags) (drop i xs) ≡ []
      by (yes end) = ap (λ fs. kept_of fs (drop i xs)) (drop_all i flags end)
      by (no on) = ap (kept_of (drop i flags)) (drop_all i xs (omega (arith, past, on))) ∙ kept_none (drop i flags)

  -- a loop that has appended what is kept before the place i, and appends the element there with its flag, has what is kept before i + 1
  pub appends_more : (flags : List Bool) (xs ys : List X) (i : ℕ) (x : X) → i < length flags → i < length xs → true ≡ get_or flags i true → x ≡ get_or xs i x
      → ys ++ kept_of (drop i flags) (drop i xs) ≡ kept_of flags xs → (ys ++ x ∷ []) ++ kept_of (drop (i + 1) flags) (drop (i + 1) xs) ≡ kept_of flags xs
  appends_more flags xs ys i x low within flag is whole =
      append_assoc ys (x ∷ []) (kept_of (drop (i + 1) flags) (drop (i + 1) xs)) ∙ ap (λ l. ys ++ l) (sym (kept_more flags xs i true x low within flag is)) ∙ whole

  -- a loop that passes over the element at the place i, whose flag is false, has what is kept before i + 1
  pub appends_not : (flags : List Bool) (xs ys : List X) (i : ℕ) (x : X) → i < length flags → i < length xs → false ≡ get_or flags i false → x ≡ get_or xs i x
      → ys ++ kept_of (drop i flags) (drop i xs) ≡ kept_of flags xs → ys ++ kept_of (drop (i + 1) flags) (drop (i + 1) xs) ≡ kept_of flags xs
  appends_not flags xs ys i x low within flag is whole = ap (λ l. ys ++ l) (sym (kept_more flags xs i false x low within flag is)) ∙ whole

  -- ys is xs with elements moved: its first k are what is kept of the first i of xs, and from the place i on it is as xs was
  pub record KeepsInPlace (flags : List Bool) (xs ys : List X) (k i : ℕ) : Type 0 where
    pub whole : take k ys ++ kept_of (drop i flags) (drop i xs) ≡ kept_of flags xs
    pub rest : drop i ys ≡ drop i xs
    pub behind : k ≤ i
    pub long : length ys ≡ length xs

  -- at the end of the flags or of the list, what was moved to the front is what is kept
  -- xs is the list at first and ys as the loop leaves it, after i elements, of which k were kept
  pub keeps_done : (flags : List Bool) (xs ys : List X) (k i : ℕ) → KeepsInPlace flags xs ys k i → min (length flags) (length xs) ≤ i → take k ys ≡ kept_of flags xs
  keeps_done flags xs ys k i h past = sym (append-nil (take k ys)) ∙ ap (λ l. take k ys ++ l) (sym (kept_end flags xs i past)) ∙ h.whole

  -- What follows is of one step at i: xs was the list, and ys is it now. Of its elements before i the k with a set flag stand at the front; x is the one at
  -- i.
  module _ (flags : List Bool) (xs ys : List X) (k i : ℕ) (h : KeepsInPlace flags xs ys k i) (low : i < length flags) (within : i < length ys) (x : X) (is : x ≡ get_or ys i x) where
    -- the place i is one of the old list
    within_xs : i < length xs
    within_xs = let long = h.long in omega (arith, within, long)

    -- from i on both lists are the same
    both : get_or ys i x ∷ drop (i + 1) ys ≡ get_or xs i x ∷ drop (i + 1) xs
    both = sym (drop_more ys i x within) ∙ h.rest ∙ drop_more xs i x within_xs

    -- x stood at i in the old list
    at : x ≡ get_or xs i x
    at = is ∙ ap (λ l. get_or l 0 x) both

    -- after i both lists are the same
    after : drop (i + 1) ys ≡ drop (i + 1) xs
    after = ap (drop 1) both

    -- where the flag at the place i is `false`, the loop goes on without a move, for the element x there
    pub keeps_not : false ≡ get_or flags i false → KeepsInPlace flags xs ys k (i + 1)
    keeps_not flag = record {
      whole = appends_not flags xs (take k ys) i x low within_xs flag at h.whole;
      rest = after;
      behind = (let b = h.behind in omega (arith, b));
      long = h.long;
    }

    -- the place k is one of the list
    k_low : k < length ys
    k_low = let b = h.behind in omega (arith, within, b)

    -- the swap puts the element at i to k, and leaves those at other places
    -- d stands for no element, and n is another place
    moved : ((d : X) → get_or (swap ys i k) k d ≡ get_or ys i d) × ((n : ℕ) (d : X) → n ≢ i → n ≢ k → get_or (swap ys i k) n d ≡ get_or ys n d)
    moved = (λ d. (swapped_from_swap ys (swap ys i k) i k d within k_low refl).1, λ n d apart other. (swapped_from_swap ys (swap ys i k) i k d within k_low refl).2 n apart other)

    -- the swap leaves as many elements
    swap_long : length (swap ys i k) ≡ length ys
    swap_long = length-swap ys i k

    -- the first k elements stay as they are when the elements at i and k are swapped
    same_front : take k (swap ys i k) ≡ take k ys
    same_front =
        -- both fronts have k elements, and at each place n below k stands what stood there, since i is not below k
        let long = length-take-le k (swap ys i k) (let l = swap_long in let w = k_low in omega (arith, l, w)) in
        let short = length-take-le k ys (let w = k_low in omega (arith, w)) in
        same_lists (take k (swap ys i k)) (take k ys) (long ∙ sym short)
        (λ n d inside.
        let b = h.behind in
        let front : n < k = omega (arith, inside, long) in
        get_or-take k (swap ys i k) n d front ∙ moved.1 n d (λ e. omega (arith, front, b, e)) (λ e. omega (arith, front, e)) ∙ sym (get_or-take k ys n d front))

    -- the elements after the place i stay as they are when the elements at i and k are swapped
    same_back : drop (i + 1) (swap ys i k) ≡ drop (i + 1) ys
    same_back =
        same_lists (drop (i + 1) (swap ys i k)) (drop (i + 1) ys) (length-drop (i + 1) (swap ys i k) ∙ ap (λ n. n - (i + 1)) swap_long ∙ sym (length-drop (i + 1) ys))
        (λ n d inside.
        let b = h.behind in
        get_or-drop (i + 1) (swap ys i k) n d ∙ moved.1 (i + 1 + n) d (λ e. omega (arith, e)) (λ e. omega (arith, b, e)) ∙ sym (get_or-drop (i + 1) ys n d))

    -- where the flag at the place i is `true`, swapping the elements at i and k keeps x, the one at i: what holds in the loop holds at the next place
    pub keeps_swap : true ≡ get_or flags i true → KeepsInPlace flags xs (swap ys i k) (k + 1) (i + 1)
    keeps_swap flag =
        -- x now stands at the place k, after the k elements that were kept
        let front : take (k + 1) (swap ys i k) ≡ take k ys ++ x ∷ [] =
        take_more (swap ys i k) k x (let l = swap_long in let w = k_low in omega (arith, l, w)) ∙ ap₂ (λ l y. l ++ y ∷ []) same_front (moved.0 x ∙ sym is) in
        record {
          whole = ap (λ l. l ++ kept_of (drop (i + 1) flags) (drop (i + 1) xs)) front ∙ appends_more flags xs (take k ys) i x low within_xs flag at h.whole;
          rest = same_back ∙ after;
          behind = (let b = h.behind in omega (arith, b));
          long = swap_long ∙ h.long;
        }

  -- an element stands at each place within a list
  -- n is the place, and x the element there
  pub some_at : (ys : List X) (n : ℕ) → n < length ys → (x : X) × (x ≡ get_or ys n x)
  some_at [] n low = absurd (omega arith)
  some_at (y ∷ ys) zero low = (y, refl)
  some_at (y ∷ ys) (suc n) low = some_at ys n (omega arith)

  -- where the flag at the place i is `false`, the loop goes on without a move
  pub step_not : (flags : List Bool) (xs ys : List X) (k i : ℕ) → KeepsInPlace flags xs ys k i → i < length flags → i < length ys → false ≡ get_or flags i false → KeepsInPlace flags xs ys k (i + 1)
  step_not flags xs ys k i h low within flag =
      let (x, is) = some_at ys i within in
      keeps_not flags xs ys k i h low within x is flag

  -- where the flag at the place i is `true`, the loop goes on once the element there was moved to the place k
  pub step_swap : (flags : List Bool) (xs ys : List X) (k i : ℕ) → KeepsInPlace flags xs ys k i → i < length flags → i < length ys → true ≡ get_or flags i true → KeepsInPlace flags xs (swap ys i k) (k + 1) (i + 1)
  step_swap flags xs ys k i h low within flag =
      let (x, is) = some_at ys i within in
      keeps_swap flags xs ys k i h low within x is flag

  -- no more elements are kept than the list has
  pub kept_few : (flags : List Bool) (xs : List X) → length (kept_of flags xs) ≤ length xs
  kept_few [] xs = omega arith
  kept_few (b ∷ flags) [] = omega arith
  kept_few (true ∷ flags) (x ∷ xs) = let rest = kept_few flags xs in omega (arith, rest)
  kept_few (false ∷ flags) (x ∷ xs) = let rest = kept_few flags xs in omega (arith, rest)

-- the same flags keep as many elements of two lists of one length
pub kept_long : {X Y : Type 0} (flags : List Bool) (xs : List X) (ys : List Y) → length xs ≡ length ys → length (kept_of flags xs) ≡ length (kept_of flags ys)
kept_long [] xs ys long = refl
kept_long (b ∷ flags) [] [] long = refl
kept_long (b ∷ flags) [] (y ∷ ys) long = absurd (omega (arith, long))
kept_long (b ∷ flags) (x ∷ xs) [] long = absurd (omega (arith, long))
kept_long (true ∷ flags) (x ∷ xs) (y ∷ ys) long = ap suc (kept_long flags xs ys (omega (arith, long)))
kept_long (false ∷ flags) (x ∷ xs) (y ∷ ys) long = kept_long flags xs ys (omega (arith, long))

-- the keys of the pairs that are kept are what is kept of the keys
pub kept_keys : {K X : Type 0} (flags : List Bool) (es : List (K × X)) → keys_of (kept_of flags es) ≡ kept_of flags (keys_of es)
kept_keys [] es = refl
kept_keys (b ∷ flags) [] = refl
kept_keys (true ∷ flags) (e ∷ es) = ap (λ l. e.0 ∷ l) (kept_keys flags es)
kept_keys (false ∷ flags) (e ∷ es) = kept_keys flags es

-- the values of the pairs that are kept are what is kept of the values
pub kept_values : {K X : Type 0} (flags : List Bool) (es : List (K × X)) → values_of (kept_of flags es) ≡ kept_of flags (values_of es)
kept_values [] es = refl
kept_values (b ∷ flags) [] = refl
kept_values (true ∷ flags) (e ∷ es) = ap (λ l. e.1 ∷ l) (kept_values flags es)
kept_values (false ∷ flags) (e ∷ es) = kept_values flags es

-- a write over the last element leaves the elements before it and the new one
pub slice_set_last : {X : Type 0} (xs : List X) (x y : X) → slice_set (xs ++ x ∷ []) (length xs) y ≡ xs ++ y ∷ []
slice_set_last [] x y = refl
slice_set_last (z ∷ xs) x y = ap (λ l. z ∷ l) (slice_set_last xs x y)

-- the place at which the element at place n of what is kept stood in the list; it depends on the flags alone
abbrev pub place_of : List Bool → ℕ → ℕ
place_of [] n = n
place_of (true ∷ flags) zero = 0
place_of (true ∷ flags) (suc n) = suc (place_of flags n)
place_of (false ∷ flags) n = suc (place_of flags n)

-- the element at place n of what is kept stood in the list at the place of n
pub kept_at : {X : Type 0} (flags : List Bool) (xs : List X) (n : ℕ) (x : X) → slice_get (kept_of flags xs) n ≡ Some x
    → (slice_get xs (place_of flags n) ≡ Some x) × (slice_get flags (place_of flags n) ≡ Some true)
kept_at [] xs n x at = absurd cc
kept_at (b ∷ flags) [] n x at = absurd cc
kept_at (true ∷ flags) (y ∷ xs) zero x at = (at, refl)
kept_at (true ∷ flags) (y ∷ xs) (suc n) x at = kept_at flags xs n x at
kept_at (false ∷ flags) (y ∷ xs) n x at = kept_at flags xs n x at

-- where all indices are marked, every mark is `true`
pub all_marked : (marks : List Bool) → All (λ is_marked. is_marked ≡ true) marks → (index : ℕ) (b : Bool) → slice_get marks index ≡ Some b → b ≡ true
all_marked marks all index b at = sym (get_or_from_slice_get marks index b b at) ∙ all index b (slice_get_within marks index b at)

-- where a list of marks as long marks all indices, it marks what another list marks
pub marked_within : (marks moved : List Bool) → length marks ≡ length moved → All (λ is_marked. is_marked ≡ true) moved → (index : ℕ) → slice_get marks index ≡ Some true → slice_get moved index ≡ Some true
marked_within marks moved long all index marked =
    let inside = slice_get_within marks index true marked in
    let low : index < length moved = omega (arith, inside, long) in
    slice_get-get_or moved index true low ∙ ap Some (all index true low)
