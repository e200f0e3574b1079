-- What holds of each element of a list holds of each that is picked from it or moved in it.
use Rattle.std.proofs.Common.{◌≡◌, ◌<◌, ◌≤◌, ◌+◌, ◌-◌, ◌++◌, ◌∙◌, ℕ, List, All, ap, arith, get_or, length, length-append, set, subst, sym, take}
use Rattle.std.proofs.Math.Seq.{get_or-append_right}
use Rattle.std.proofs.lemmas.List.Elements.{All-map, All-set, All-take}
use Rattle.sip_machine.specs.inner.Pools.{AreFirstOnes, picked}

-- In the lemmas `x` is what is taken at a place that is not in a list, and `rows` are the places of the elements that are picked.

-- what holds of all elements holds of those that are picked
pub all_picked : {X : Type 0} (P : X → Type 0) (xs : List X) (x : X) (rows : List ℕ) → All P xs → All (λ row. row < length xs) rows → All P (picked xs x rows)
all_picked P xs x rows all within = All-map P (λ row. get_or xs row x) rows (λ k d low. all (get_or rows k d) x (within k d low))

-- what holds of all elements holds of the first ones, where one of them is put in the place of another
-- `from` is the place of the element that is moved, `to` the place where it is put, and `count` how many elements are left
pub all_moved : {X : Type 0} (P : X → Type 0) (xs : List X) (from to count : ℕ) (x : X) → from < length xs → All P xs → All P (take count (set xs to (get_or xs from x)))
all_moved P xs from to count x low all = All-take P count (set xs to (get_or xs from x)) (All-set P xs to (get_or xs from x) (all from x low) all)

-- what holds of all elements after others holds of those of them that are picked
pub behind_picked : {X : Type 0} (P : X → Type 0) (old added new : List X) (x : X) (rows : List ℕ) → new ≡ old ++ added →
    All (λ row. (length old ≤ row) × (row < length new)) rows → All P added → All P (picked new x rows)
behind_picked P old added new x rows is within all =
    All-map P (λ row. get_or new row x) rows
    (λ k d low.
    let row = get_or rows k d in
    let inside = within k d low in
    let above = inside.0 in
    let below = inside.1 in
    -- the element at the row is one of those that were added
    let size : length new ≡ length old + length added = ap length is ∙ length-append old added in
    let here : get_or new row x ≡ get_or added (row - length old) x = ap (λ xs. get_or xs row x) is ∙ get_or-append_right old added row x above in
    subst P (sym here) (all (row - length old) x (omega (arith, above, below, size))))

-- a list has exactly the elements of another one from an index on, each once
abbrev pub HasFirstOnes : {X : Type 0} → List X → X → ℕ → List X → Type 0
HasFirstOnes xs x from kept = (rows : List ℕ) × AreFirstOnes xs from (length xs) rows × (kept ≡ picked xs x rows)

-- what holds of all elements after others holds of those of them that are kept, each once
pub all_first_ones : {X : Type 0} (P : X → Type 0) (old added new : List X) (x : X) (from : ℕ) (kept : List X) → new ≡ old ++ added → from ≡ length old → All P added →
    HasFirstOnes new x from kept → All P kept
all_first_ones P old added new x from kept is at all (rows, ones, same) =
    subst (All P) (sym same)
    (behind_picked P old added new x rows is (subst (λ n. All (λ row. (n ≤ row) × (row < length new)) rows) at ones.within) all)
