-- The first of each kind among the elements of a list: how these are brought to its front, and the prints by which they are found.
use Prim.Native.Nat.{suc, zero}
use Rattle.std.specs.Prelude.{◌≡◌, ◌≢◌, ◌<◌, ◌≤◌, ◌+◌, ◌-◌, ◌↔◌, ℕ, Bool, false, IsTrue, List, [], ◌∷◌, ◌++◌, All, AllPairs, bit_xor, drop, get_or, length, map, take}
use Rattle.std.specs.List.{Any}
use Rattle.std.proofs.Common.{inl, inr, sym, ◌∙◌, ap, ap₂, subst, arith, length-set, true≢false}
use Rattle.std.proofs.lemmas.Grind.{common_steps}
use Rattle.std.proofs.lemmas.Bool.Decides.{nat_tests}
use Rattle.std.proofs.lemmas.Bool.{cases_lt}
use Rattle.std.proofs.lemmas.List.{get_or_append_left, get_or_default, get_or-drop, get_or-map, get_or-set_same, get_or-set_other, get_or-take, length-drop, length-map, length-take-le, map-append, same_lists, take-set-le, take_more}
use Rattle.std.proofs.lemmas.List.Elements.{All-push, All-weaker}
use Rattle.std.proofs.lemmas.List.Quantifiers.{Any-push, all_pairs_push}
use Rattle.sip_ledger.specs.declared.debt.Debt.{Debt}
use Rattle.sip_machine.specs.Owes.{owed_in}
use Rattle.sip_machine.specs.Owing.{CodeOwing}
use Rattle.sip_machine.specs.inner.Pools.{AreFirstOnes, picked, AreMixedWith, IsRun, beside, hash_by}
use Rattle.sip_machine.specs.inner.Prints.{ArePrints}
use Rattle.sip_machine.proofs.pools.PoolLemmas.{beside-length, state-at}

-- What follows is of rows of the list xs: those of its elements that have no equal before them.
module _ {X : Type 0} (xs : List X) where
  -- some row of the list has an element equal to that of row k
  abbrev pub IsAmong : List ℕ → ℕ → Type 0
  IsAmong rows k = (x : X) → Any (λ row. get_or xs row x ≡ get_or xs k x) rows

  -- none of the rows has the element that row k has
  abbrev pub IsNew : List ℕ → ℕ → Type 0
  IsNew rows k = (x : X) → All (λ row. get_or xs row x ≢ get_or xs k x) rows

  -- the row that stands at i in the list of rows is one of them
  Any-here : (rows : List ℕ) (i d k : ℕ) (x : X) → i < length rows → get_or xs (get_or rows i d) x ≡ get_or xs k x → Any (λ row. get_or xs row x ≡ get_or xs k x) rows
  Any-here rows i d k x low same = (i, get_or rows i d, low, get_or_default rows i (get_or rows i d) d low, same)

  -- what holds of one of some rows holds of one of them and a further one
  Any-more : (P : ℕ → Type 0) (rows : List ℕ) (row : ℕ) → Any P rows → Any P (rows ++ row ∷ [])
  Any-more P rows row (i, r, low, is, holds) = (i, r, low-more rows row i low, get_or_append_left rows (row ∷ []) r i low ∙ is, holds)
    where
      -- a place of the rows is a place of the rows with one more after them
      low-more : (rows : List ℕ) (row i : ℕ) → i < length rows → i < length (rows ++ row ∷ [])
      low-more [] row i low = absurd (omega (arith, low))
      low-more (r ∷ rows) row zero low = omega arith
      low-more (r ∷ rows) row (suc i) low = let more = low-more rows row i (omega (arith, low)) in omega (arith, more)

  -- where none of the first ones is the same as the element at `at`, that is a further first one
  first-more : (from at : ℕ) (rows : List ℕ) → from ≤ at → AreFirstOnes xs from at rows → IsNew rows at → AreFirstOnes xs from (at + 1) (rows ++ at ∷ [])
  first-more from at rows low first new = record {
    within = All-push (λ row. (from ≤ row) × (row < at + 1)) rows at
        (All-weaker (λ row. (from ≤ row) × (row < at)) (λ row. (from ≤ row) × (row < at + 1)) (λ row is. let b = is.1 in (is.0, omega (arith, b))) rows first.within)
        (low, omega arith);
    -- the new row is above all others
    rising = all_pairs_push (λ a b. a < b) rows at first.rising (λ k d low. (first.within k d low).1);
    -- an element before `at` is the same as that of one of the old rows, and the element at `at` is that of the new row
    each = λ k x low_k high_k. elim (cases_lt k at) [
      | inl before ↦ Any-more (λ row. get_or xs row x ≡ get_or xs k x) rows at (first.each k x low_k before)
      | inr behind ↦
          let here : at ≡ k = omega (arith, behind, high_k) in
          Any-push (λ row. get_or xs row x ≡ get_or xs k x) rows at (ap (λ r. get_or xs r x) here)
    ];
    -- no two rows have equal elements: that of the new row is none of the others
    apart = λ x. all_pairs_push (λ a b. get_or xs a x ≢ get_or xs b x) rows at (first.apart x) (λ k d low. new x k d low);
  }

  -- where a test tells whether the element at `at` has its equal among the rows, and it has none there, the rows and this one are those up to one further
  pub first-told : (from at : ℕ) (rows : List ℕ) (is : Bool) → from ≤ at → AreFirstOnes xs from at rows → ((x : X) → IsTrue is ↔ Any (λ row. get_or xs row x ≡ get_or xs at x) rows) →
      is ≡ false → AreFirstOnes xs from (at + 1) (rows ++ at ∷ [])
  first-told from at rows is low first tells none =
      first-more from at rows low first (λ x i d within same. true≢false (sym ((tells x).1 (Any-here rows i d at x within same)) ∙ none))

  -- where one of the first ones is the same as the element at `at`, that is no further first one
  pub first-again : (from at : ℕ) (rows : List ℕ) → AreFirstOnes xs from at rows → IsAmong rows at → AreFirstOnes xs from (at + 1) rows
  first-again from at rows first among = record {
    -- the rows are the same, and the element at `at` has its equal among them
    within = All-weaker (λ row. (from ≤ row) × (row < at)) (λ row. (from ≤ row) × (row < at + 1)) (λ row is. let b = is.1 in (is.0, omega (arith, b))) rows first.within;
    rising = first.rising;
    each = λ k x low_k high_k. elim (cases_lt k at) [
      | inl before ↦ first.each k x low_k before
      | inr behind ↦ let here : at ≡ k = omega (arith, behind, high_k) in subst (λ r. Any (λ row. get_or xs row x ≡ get_or xs r x) rows) here (among x)
    ];
    apart = first.apart;
  }

-- each row of a list of rows that rise is at least its place in the list
pub rising-above : (rows : List ℕ) (k : ℕ) → AllPairs (λ a b. a < b) rows → k < length rows → k ≤ get_or rows k 0
rising-above rows zero rising low = omega arith
rising-above rows (suc k) rising low =
    let before = rising-above rows k rising (omega (arith, low)) in
    let next = rising k (suc k) 0 (omega arith) low in
    omega (arith, before, next)

-- each row of a list of rows that rise is above an earlier one by at least the difference of their places
pub rising-apart : (rows : List ℕ) (i k : ℕ) → AllPairs (λ a b. a < b) rows → i + k < length rows → get_or rows i 0 + k ≤ get_or rows (i + k) 0
rising-apart rows i zero rising low = let here : i + 0 ≡ i = omega arith in rw here (omega arith)
rising-apart rows i (suc k) rising low =
    let next : i + suc k ≡ suc (i + k) = omega arith in
    let before = rising-apart rows i k rising (omega (arith, low)) in
    let above = rising (i + k) (suc (i + k)) 0 (omega arith) (omega (arith, low)) in
    rw next (omega (arith, before, above))

-- rising indices whose last is no further from the first than their number says are a run: each is one more than the one before
pub run_of : (rows : List ℕ) → AllPairs (λ a b. a < b) rows → 0 < length rows → get_or rows (length rows - 1) 0 - get_or rows 0 0 < length rows → IsRun (get_or rows 0 0) rows
run_of rows rising some near =
    record {
      some = some;
      each = λ k low.
          let rest = length rows - 1 - k in
          -- between two rising indices there is at least their distance
          let end : k + rest ≡ length rows - 1 = omega (arith, low) in
          let up = rising-apart rows 0 k rising (omega (arith, low)) in
          let on = rising-apart rows k rest rising (omega (arith, low, end)) in
          let last : get_or rows (k + rest) 0 ≡ get_or rows (length rows - 1) 0 = ap (λ n. get_or rows n 0) end in
          let here : get_or rows (0 + k) 0 ≡ get_or rows k 0 = let e : 0 + k ≡ k = omega arith in ap (λ n. get_or rows n 0) e in
          omega (arith, up, on, last, here, near, low, end);
    }

-- what is picked by a run of indices is a part of the list
pub run_picked : {X : Type 0} (xs : List X) (rows : List ℕ) (first : ℕ) (x : X) → IsRun first rows → All (λ row. row < length xs) rows →
    take (length rows) (drop first xs) ≡ picked xs x rows
run_picked xs rows first x run within =
    let last = within (length rows - 1) 0 (omega (arith, run.some)) in
    let end = run.each (length rows - 1) (omega (arith, run.some)) in
    let behind = length-drop first xs in
    -- the part of the list is as long as the rows
    let room : length rows ≤ length (drop first xs) = omega (arith, run.some, last, end, behind) in
    let size : length (take (length rows) (drop first xs)) ≡ length rows = length-take-le (length rows) (drop first xs) room in
    let count : length (picked xs x rows) ≡ length rows = length-map rows (λ row. get_or xs row x) in
    same_lists (take (length rows) (drop first xs)) (picked xs x rows) (size ∙ sym count)
    -- each row is one more than the one before, so its element stands there in the part
    (λ k d low.
    let inside : k < length rows = omega (arith, low, size) in
    let is = run.each k inside in
    let row_low = within k 0 inside in
    get_or-take (length rows) (drop first xs) k d inside ∙ get_or-drop first xs k d ∙ ap (λ n. get_or xs n d) (sym is)
    ∙ get_or_default xs (get_or rows k 0) d x row_low ∙ sym (get_or-map (λ row. get_or xs row x) rows k 0 d inside))

-- what stays in a pool of which some states are kept: the lemmas that `using(..)` gives the prover in `src/pool.rt`
pub ruleset of_kept = (beside-length, run_picked)

-- What follows is of elements that are brought to the front of their list.

-- in ys the elements of xs at the first `to` rows stand in front, and the others where they stood
pub record IsPicking {X : Type 0} (xs ys : List X) (rows : List ℕ) (to : ℕ) : Type 0 where
  pub long : length ys ≡ length xs
  pub front : (x : X) → take to ys ≡ picked xs x (take to rows)
  pub rest : (k : ℕ) (x : X) → to ≤ k → get_or ys k x ≡ get_or xs k x

-- What follows is of the list xs and `rows`, the places of those of its elements that are put to its front.
module _ {X : Type 0} (xs : List X) (rows : List ℕ) where
  -- where the element at the next row is put after those in front, one more stands there
  pub picking-more : (ys zs : List X) (to row : ℕ) → IsPicking xs ys rows to → to < length rows → to < length xs → row ≡ get_or rows to 0 → to ≤ row →
      length zs ≡ length ys → take to zs ≡ take to ys → ((d : X) → get_or zs to d ≡ get_or ys row d) → ((k : ℕ) (d : X) → to < k → get_or zs k d ≡ get_or ys k d) →
      IsPicking xs zs rows (to + 1)
  picking-more ys zs to row picking low within is le long front here rest = record {
    long = long ∙ picking.long;
    front = λ d.
        let room : to < length zs = omega (arith, within, long, picking) in
        -- the front has the element of the next row too
        take_more zs to d room ∙ ap₂ (λ ws w. ws ++ w ∷ []) (front ∙ picking.front d) (here d ∙ picking.rest row d le ∙ ap (λ r. get_or xs r d) is)
        ∙ sym (map-append (λ r. get_or xs r d) (take to rows) (get_or rows to 0 ∷ [])) ∙ ap (map (λ r. get_or xs r d)) (sym (take_more rows to 0 low));
    rest = λ k d le_k. rest k d (omega (arith, le_k)) ∙ picking.rest k d (omega (arith, le_k));
  }

-- how the elements at some rows come to the front: the lemmas that `using(..)` gives the prover in `src/pool.rt`
pub ruleset of_picking = (nat_tests, common_steps, cases_lt, rising-above, picking-more, length-set, length-take-le, take-set-le, get_or-set_same, get_or_default, get_or-set_other)

-- What follows is of prints.

-- the prints of the phases before `at` are mixed with the hashes of the phases
pub record AreMixed {S : Type 0} (input : S → List (List ℕ)) (phases : List S) (from : ℕ) (old new : List ℕ) (at : ℕ) : Type 0 where
  pub long : length new ≡ length old
  pub mixed : (k : ℕ) (p : S) → k < at → from + k < length phases → get_or new k 0 ≡ bit_xor (get_or old k 0) (hash_by (input (get_or phases (from + k) p)))
  pub rest : (k : ℕ) → at ≤ k → get_or new k 0 ≡ get_or old k 0

-- What follows is of prints: `old` are those of what states owe; `input` gives the bytes that each of `phases`, beginning at `from`, mixes into one.
module _ {S : Type 0} (input : S → List (List ℕ)) (phases : List S) (from : ℕ) (old : List ℕ) where
  -- where the prints of neighbours of one phase are mixed with its hash as well, those before `to` are mixed
  pub mixed-run : (new after : List ℕ) (at to hash : ℕ) (p : S) → AreMixed input phases from old new at → AreMixedWith hash at to new after → hash ≡ hash_by (input p) → at ≤ to →
      ((k : ℕ) (q : S) → at ≤ k → k < to → from + k < length phases → get_or phases (from + k) q ≡ p) → AreMixed input phases from old after to
  mixed-run new after at to hash p mixing run is order alike = grind (arith, nat_tests, cases_lt)

  -- where the prints of all states are mixed with the hashes of their phases, they are prints of the states
  pub mixed-all : (rows : List (List Debt)) (xs : List (CodeOwing S)) (new : List ℕ) (at : ℕ) → beside phases rows ≡ xs → length rows ≡ length phases → ArePrints rows from old →
      AreMixed input phases from old new at → length phases ≤ from + at → ArePrints xs from new
  mixed-all rows xs new at is long prints mixing all =
      let size : length xs ≡ length phases = ap length (sym is) ∙ beside-length phases rows in
      record {
        -- there is a print for each state from `from` on, and equal states have equal ones
        long = omega (arith, size, long, prints.long, mixing.long);
        same = λ i k x above_i low_i above_k low_k e.
            let p = x.phase in
            let alike = sym (state-at phases rows xs i p x is low_i) ∙ e ∙ state-at phases rows xs k p x is low_k in
            -- states that are equal have one phase and owe the same
            let phase : get_or phases i p ≡ get_or phases k p = ap (λ y. y.phase) alike in
            let owes : owed_in rows i ≡ owed_in rows k = ap (λ y. y.owes) alike in
            let in_i : i < length rows = omega (arith, low_i, size, long) in
            let in_k : k < length rows = omega (arith, low_k, size, long) in
            let there_i : from + (i - from) ≡ i = omega (arith, above_i) in
            let there_k : from + (k - from) ≡ k = omega (arith, above_k) in
            -- the same was mixed into equal prints
            mixing.mixed (i - from) p (omega (arith, above_i, low_i, size, all)) (omega (arith, above_i, low_i, size))
            ∙ ap₂ (λ n q. bit_xor n (hash_by (input q))) (prints.same i k [] above_i in_i above_k in_k owes)
            (ap (λ n. get_or phases n p) there_i ∙ phase ∙ ap (λ n. get_or phases n p) (sym there_k))
            ∙ sym (mixing.mixed (k - from) p (omega (arith, above_k, low_k, size, all)) (omega (arith, above_k, low_k, size)));
      }
