-- Findings are handed out one after another into the room that there is for them.
use Rattle.std.proofs.Common.{◌≡◌, ◌∙◌, ◌<◌, ◌≤◌, ◌+◌, ℕ, List, [], ◌∷◌, ◌++◌, length, map, min, take, drop, get_or, slice_set, sym, ap, subst, append_assoc, drop-cons, add-one, arith}
use Rattle.std.proofs.lemmas.List.{take_more, map-append, length-map, length-take, length-take-le, get_or-take, take_min, drop_min}
use Rattle.std.proofs.Math.ListN.{set}
use Rattle.std.proofs.Math.Seq.{set-append_seam}

-- What follows is of a list xs that is handed out into the list `room`, each element as f gives it.
module _ {A B : Type 0} (f : A → B) (xs : List A) (room : List B) where
  -- the element at i is put in the place i of the room, after the elements before it
  put_next : (i : ℕ) (d : A) → i < length xs → i < length room → slice_set (map f (take i xs) ++ drop i room) i (f (get_or xs i d)) ≡ map f (take (i + 1) xs) ++ drop (i + 1) room
  put_next i d low fits =
      let x = get_or xs i d in
      let front = map f (take i xs) in
      let rest = drop (i + 1) room in
      let size : length front ≡ i = length-map (take i xs) f ∙ length-take-le i xs (omega arith) in
      -- the place i stands right after the elements before it, so writing there appends
      let place : drop i room ≡ get_or room i (f x) ∷ rest = rw (add-one, drop-cons room i (f x)) in
      let put : set (front ++ get_or room i (f x) ∷ rest) i (f x) ≡ front ++ f x ∷ rest =
      subst (λ k. set (front ++ get_or room i (f x) ∷ rest) k (f x) ≡ front ++ f x ∷ rest) size (set-append_seam front (get_or room i (f x)) rest (f x)) in
      let both : map f (take (i + 1) xs) ++ rest ≡ front ++ f x ∷ rest =
      ap (λ ys. map f ys ++ rest) (take_more xs i d low) ∙ ap (λ ys. ys ++ rest) (map-append f (take i xs) (x ∷ [])) ∙ append_assoc front (f x ∷ []) rest in
      ap (λ r. set (front ++ r) i (f x)) place ∙ put ∙ sym both

  -- What follows is of the first n elements, as many as the list and the room both have.
  module _ (n : ℕ) (fits : n ≡ min (length xs) (length room)) where
    -- where the elements before i are handed out, and the one at i is put in its place, the elements up to i are handed out
    pub handed_next : (i : ℕ) (d : A) (y : B) (now : List B) → i < length (take n xs) → y ≡ f (get_or (take n xs) i d) → now ≡ map f (take i xs) ++ drop i room
        → slice_set now i y ≡ map f (take (i + 1) xs) ++ drop (i + 1) room
    handed_next i d y now low is so_far =
        let some = length-take n xs in
        let same : y ≡ f (get_or xs i d) = is ∙ ap f (get_or-take n xs i d (omega arith)) in
        ap (λ r. slice_set r i y) so_far ∙ ap (slice_set (map f (take i xs) ++ drop i room) i) same ∙ put_next i d (omega arith) (omega arith)

    -- where all n elements are handed out, as many of all elements are handed out as there is room for
    pub handed_all : (i : ℕ) (now : List B) → i ≤ length (take n xs) → length (take n xs) ≤ i → now ≡ map f (take i xs) ++ drop i room → now ≡ map f (take (length room) xs) ++ drop (length xs) room
    handed_all i now few all so_far =
        let some = length-take n xs in
        -- i is now the least of both lengths: as many are taken as the room has places, and as many places are dropped as there are elements
        let at_room : i ≡ min (length room) (length xs) = omega (arith, some) in
        let at_found : i ≡ min (length xs) (length room) = omega (arith, some) in
        so_far ∙ ap (λ k. map f (take k xs) ++ drop i room) at_room ∙ ap (λ ys. map f ys ++ drop i room) (take_min (length room) xs)
        ∙ ap (λ k. map f (take (length room) xs) ++ drop k room) at_found ∙ ap (λ ys. map f (take (length room) xs) ++ ys) (drop_min (length xs) room)
