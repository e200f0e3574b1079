-- The elements that are picked, the first of each kind from an index on, are exactly the elements from there on, each once.
use Rattle.std.specs.Prelude.{◌≡◌, ◌≢◌, ◌↔◌, ◌≤◌, ◌<◌, ◌+◌, ◌-◌, ℕ, List, AllPairs, Contains, drop, get_or, length, map}
use Rattle.std.proofs.Common.{◌∙◌, sym, ap, subst, arith}
use Rattle.std.proofs.lemmas.List.{get_or-drop, get_or-map, get_or_default, length-drop, length-map}
use Rattle.std.proofs.lemmas.List.Elements.{All-contains}
use Rattle.sip_machine.specs.inner.Pools.{AreFirstOnes, picked}
use Rattle.sip_states.proofs.lists.Listed.{Contains-map, Contains-from_map}

-- What follows is of `rows`, the places of those elements of ys from `first` on that have no equal before them; x is any element.
module _ {S : Type 0} (ys : List S) (first : ℕ) (rows : List ℕ) (x : S) (ones : AreFirstOnes ys first (length ys) rows) where
  -- the element at this place
  abbrev at : ℕ → S
  at row = get_or ys row x

  -- each element that is picked is one from `first` on
  picked-there : (z : S) → Contains (picked ys x rows) z → Contains (drop first ys) z
  picked-there z has =
      -- z stands at a row among those that are picked, and so at this row less `first` among the elements from `first` on
      let (row, among, is) = Contains-from_map at rows z has in
      let (low, high) = All-contains (λ row. (first ≤ row) × (row < length ys)) rows row ones.within among in
      let size : length (drop first ys) ≡ length ys - first = length-drop first ys in
      let where_it_stands : first + (row - first) ≡ row = omega (arith, low) in (
        row - first,
        omega (arith, low, high, size),
        get_or-drop first ys (row - first) z ∙ ap (λ k. get_or ys k z) where_it_stands ∙ get_or_default ys row z x high ∙ is,
      )

  -- each element from `first` on is picked
  there-picked : (z : S) → Contains (drop first ys) z → Contains (picked ys x rows) z
  there-picked z (k, low, is) =
      let size : length (drop first ys) ≡ length ys - first = length-drop first ys in
      let high : first + k < length ys = omega (arith, low, size) in
      let (i, row, within, is_row, same) = ones.each (first + k) x (omega arith) high in
      let value : at row ≡ z = same ∙ get_or_default ys (first + k) x z high ∙ sym (get_or-drop first ys k z) ∙ is in
      subst (Contains (picked ys x rows)) value (Contains-map at rows row (i, within, is_row))

  -- the elements that are picked are those from `first` on
  pub picked-members : (z : S) → Contains (picked ys x rows) z ↔ Contains (drop first ys) z
  picked-members z = (picked-there z, there-picked z)

  -- no element is picked twice
  pub picked-distinct : AllPairs (λ a b. a ≢ b) (picked ys x rows)
  picked-distinct = λ i j d low high same.
      let size : length (picked ys x rows) ≡ length rows = length-map rows at in
      let high' : j < length rows = omega (arith, high, size) in
      ones.apart x i j 0 low high' (sym (get_or-map at rows i 0 d (omega (arith, low, high'))) ∙ same ∙ get_or-map at rows j 0 d high')

-- elements whose images all differ all differ
pub unseen-distinct : {S X : Type 0} (f : S → X) (xs : List S) → AllPairs (λ a b. a ≢ b) (map f xs) → AllPairs (λ a b. a ≢ b) xs
unseen-distinct f xs apart = λ i j d low high same.
    let size : length (map f xs) ≡ length xs = length-map xs f in
    apart i j (f d) low (omega (arith, high, size)) (get_or-map f xs i d (f d) (omega (arith, low, high)) ∙ ap f same ∙ sym (get_or-map f xs j d (f d) high))
