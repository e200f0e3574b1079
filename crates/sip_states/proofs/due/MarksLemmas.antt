-- Lemmas of the order of indices: the marked ones stand first, and to mark one or to take a mark off exchanges two places.
-- In the lemmas of two writes a is written at the place i and then b at the place j of the list xs; k is a further place, and d stands for no element.
use Rattle.std.specs.Prelude.{◌≡◌, ◌≢◌, ◌<◌, ◌≤◌, ◌+◌, ◌-◌, ◌↔◌, ℕ, Bool, true, false, Some, List, AllPairs, Contains, length, nat_lt, get_or, set, slice_get, take}
use Rattle.std.proofs.Common.{inl, inr, sym, ◌∙◌, ap, subst, arith, true≢false}
use Rattle.std.proofs.lemmas.Bool.{cases_lt, lt-ltb, le-ltb, ltb-true}
use Rattle.std.proofs.lemmas.Option.{slice_get-get_or, slice_get_within, get_or_from_slice_get}
use Rattle.std.proofs.lemmas.Bool.Decides.{eqb_tells, nat_tests}
use Rattle.std.proofs.lemmas.List.{length-set, length-map, get_or-set_same, get_or-set_other, get_or-map, same_lists, get_or_default, get_or-take, length-take-le}
use Rattle.sip_states.specs.inner.Marks.{marks, IsPlaced, IsMarked, exchanged_order, exchanged_places}

-- after two writes the second place has what was written second
pub at_second : (xs : List ℕ) (i j a b d : ℕ) → j < length xs → get_or (set (set xs i a) j b) j d ≡ b
at_second xs i j a b d low = get_or-set_same (set xs i a) j b d (let long = length-set xs i a in omega arith)

-- after two writes at different places the first place has what was written first
pub at_first : (xs : List ℕ) (i j a b d : ℕ) → i < length xs → i ≢ j → get_or (set (set xs i a) j b) i d ≡ a
at_first xs i j a b d low differ = get_or-set_other (set xs i a) j i b d differ ∙ get_or-set_same xs i a d low

-- after two writes any other place has what it had
pub at_other : (xs : List ℕ) (i j k a b d : ℕ) → k ≢ i → k ≢ j → get_or (set (set xs i a) j b) k d ≡ get_or xs k d
at_other xs i j k a b d one two = get_or-set_other (set xs i a) j k b d two ∙ get_or-set_other xs i k a d one

-- What follows is of an order in which the indices a and b, at the places p and q, were exchanged.
module _ (order places : List ℕ) (count : ℕ) (is : IsPlaced order places count) (p q : ℕ) (p_low : p < length order) (q_low : q < length order) where
  -- the index at the place p
  abbrev a : ℕ
  a = get_or order p 0

  -- the index at the place q
  abbrev b : ℕ
  b = get_or order q 0

  -- the order after the exchange
  abbrev new_order : List ℕ
  new_order = exchanged_order order p q

  -- the place of each index after the exchange
  abbrev new_places : List ℕ
  new_places = exchanged_places order places p q

  -- the index a has a place
  a_low : a < length places
  a_low = (let low = (is.ordered p p_low).0 in let long = is.long in omega arith)

  -- the index b has a place
  b_low : b < length places
  b_low = (let low = (is.ordered q q_low).0 in let long = is.long in omega arith)

  -- two places with the same index are one place
  pub same_place : (k l : ℕ) → k < length order → l < length order → get_or order k 0 ≡ get_or order l 0 → k ≡ l
  same_place k l low high same = sym (is.ordered k low).1 ∙ ap (λ i. get_or places i 0) same ∙ (is.ordered l high).1

  -- after the exchange the index a has the place q
  pub place_of_a : get_or new_places a 0 ≡ q
  place_of_a =
      elim (eqb_tells a b) [
        | inl same ↦ ap (λ i. get_or new_places i 0) same.1 ∙ at_second places a b q p 0 b_low ∙ same_place p q p_low q_low same.1
        | inr differ ↦ at_first places a b q p 0 a_low differ.1
      ]

  -- after the exchange the index b has the place p
  pub place_of_b : get_or new_places b 0 ≡ p
  place_of_b = at_second places a b q p 0 b_low

  -- after the exchange any other index has the place that it had
  pub place_of_other : (i : ℕ) → i ≢ a → i ≢ b → get_or new_places i 0 ≡ get_or places i 0
  place_of_other i one two = at_other places a b i q p 0 one two

  -- after the exchange the index a stands at the place q
  pub at_q : get_or new_order q 0 ≡ a
  at_q = at_second order p q b a 0 q_low

  -- after the exchange the index b stands at the place p
  at_p : get_or new_order p 0 ≡ b
  at_p =
      elim (eqb_tells p q) [
        | inl same ↦ ap (λ k. get_or new_order k 0) same.1 ∙ at_q ∙ ap (λ k. get_or order k 0) same.1
        | inr differ ↦ at_first order p q b a 0 p_low differ.1
      ]

  -- the exchange leaves as many indices as there were
  size : length new_order ≡ length order
  size = length-set (set order p b) q a ∙ length-set order p b

  -- the exchange leaves as many places as there were
  pub new_long : length new_places ≡ length places
  new_long = length-set (set places a q) b p ∙ length-set places a q

  -- after the exchange each index still has its place, whatever number of marked ones is within the length
  pub exchanged : (next : ℕ) → next ≤ length order → IsPlaced new_order new_places next
  exchanged next few = record {
    long = new_long ∙ is.long ∙ sym size;
    few = (let same = size in omega arith);
    placed = λ i low. (
        let within : i < length order = (let same = size in omega arith) in
        -- the first of the two indices has the place of the second
        elim (eqb_tells i a) [
          | inl is_a ↦ subst (λ j. (get_or new_places j 0 < length new_order) × (get_or new_order (get_or new_places j 0) 0 ≡ j)) (sym is_a.1)
              ((let at = place_of_a in let same = size in omega arith), ap (λ k. get_or new_order k 0) place_of_a ∙ at_q)
          -- the second has the place of the first
          | inr not_a ↦ elim (eqb_tells i b) [
            | inl is_b ↦ subst (λ j. (get_or new_places j 0 < length new_order) × (get_or new_order (get_or new_places j 0) 0 ≡ j)) (sym is_b.1)
                ((let at = place_of_b in let same = size in omega arith), ap (λ k. get_or new_order k 0) place_of_b ∙ at_p)
            -- any other index keeps its place
            | inr not_b ↦
                let k = get_or places i 0 in
                let was = is.placed i within in
                let other = place_of_other i not_a.1 not_b.1 in
                let not_p : k ≢ p = λ e. not_a.1 (sym was.1 ∙ ap (λ n. get_or order n 0) e) in
                let not_q : k ≢ q = λ e. not_b.1 (sym was.1 ∙ ap (λ n. get_or order n 0) e) in
                ((let low_k = was.0 in let same = size in omega arith), ap (λ n. get_or new_order n 0) other ∙ at_other order p q k b a 0 not_p not_q ∙ was.1)
          ]
        ]
        );
    -- each place has the index whose place it is: the two places first
    ordered = λ k low. (
        -- the index at p is now the one that stood at q, and the other way round; any other place has the index that it had
        let within : k < length order = (let same = size in omega arith) in
        elim (eqb_tells k p) [
          | inl is_p ↦ subst (λ n. (get_or new_order n 0 < length new_order) × (get_or new_places (get_or new_order n 0) 0 ≡ n)) (sym is_p.1)
              ((let at = at_p in let low_b = (is.ordered q q_low).0 in let same = size in omega arith), ap (λ i. get_or new_places i 0) at_p ∙ place_of_b)
          | inr not_p ↦ elim (eqb_tells k q) [
            | inl is_q ↦ subst (λ n. (get_or new_order n 0 < length new_order) × (get_or new_places (get_or new_order n 0) 0 ≡ n)) (sym is_q.1)
                ((let at = at_q in let low_a = (is.ordered p p_low).0 in let same = size in omega arith), ap (λ i. get_or new_places i 0) at_q ∙ place_of_a)
            -- any other place keeps its index
            | inr not_q ↦
                let i = get_or order k 0 in
                let was = is.ordered k within in
                let same_index = at_other order p q k b a 0 not_p.1 not_q.1 in
                -- the index at this place is neither of the two
                let not_a : i ≢ a = λ e. not_p.1 (same_place k p within p_low e) in
                let not_b : i ≢ b = λ e. not_q.1 (same_place k q within q_low e) in
                ((let low_i = was.0 in let same = size in omega arith), ap (λ j. get_or new_places j 0) same_index ∙ place_of_other i not_a not_b ∙ was.1)
          ]
        ]
        );
  }

-- What follows is of marks.

-- an index is marked where its place is below the number of marked ones
pub mark_at : (places : List ℕ) (count k : ℕ) (d : Bool) → k < length places → get_or (marks places count) k d ≡ nat_lt (get_or places k 0) count
mark_at places count k d low = get_or-map (λ place. nat_lt place count) places k 0 d low

-- a list that has this mark at the index, and at every other one what the places say, is the marks with one written
same_marks : (xs : List Bool) (places : List ℕ) (count index : ℕ) (b : Bool) → length xs ≡ length places → index < length places
    → ((k : ℕ) (d : Bool) → k < length places → ((k ≡ index) → get_or xs k d ≡ b) × ((k ≢ index) → get_or xs k d ≡ nat_lt (get_or places k 0) count))
    → xs ≡ set (marks places count) index b
same_marks xs places count index b long low says =
    let size : length (marks places count) ≡ length places = length-map places (λ place. nat_lt place count) in
    same_lists xs (set (marks places count) index b) (long ∙ sym (length-set (marks places count) index b ∙ size)) (λ k d low_k.
    -- at the index the mark is the one written, and at any other index it is as it was
    let within : k < length places = omega (arith, long) in
    elim (eqb_tells k index) [
      | inl same ↦ (says k d within).0 same.1 ∙ sym (ap (λ n. get_or (set (marks places count) index b) n d) same.1 ∙ get_or-set_same (marks places count) index b d (omega (arith, size)))
      | inr differ ↦ (says k d within).1 differ.1 ∙ sym (get_or-set_other (marks places count) index k b d differ.1 ∙ mark_at places count k d within)
    ])

-- writing the mark that an index has already changes no mark
pub marked_still : (places : List ℕ) (count index : ℕ) (b : Bool) → index < length places → nat_lt (get_or places index 0) count ≡ b → marks places count ≡ set (marks places count) index b
marked_still places count index b low is =
    same_marks (marks places count) places count index b (length-map places (λ place. nat_lt place count)) low
    (λ k d low_k. (λ same. mark_at places count k d low_k ∙ ap (λ n. nat_lt (get_or places n 0) count) same ∙ is, λ differ. mark_at places count k d low_k))

-- exchanging an index that is not marked with the first one that is not, and counting one more, marks it and no other
pub marked_more : (order places : List ℕ) (count : ℕ) → IsPlaced order places count → (index p : ℕ) → index < length places → p ≡ get_or places index 0 → count ≤ p
    → marks (exchanged_places order places p count) (count + 1) ≡ set (marks places count) index true
marked_more order places count is index p low at high =
    let long = is.long in
    let within : index < length order = omega arith in
    let there = is.placed index within in
    let p_low : p < length order = omega (arith, at, there.0) in
    -- the index stands at p, and the first one that is not marked at `count`
    let q_low : count < length order = omega arith in
    let mine : get_or order p 0 ≡ index = ap (λ n. get_or order n 0) at ∙ there.1 in
    let b = get_or order count 0 in
    let b_at : get_or places b 0 ≡ count = (is.ordered count q_low).1 in
    let new = exchanged_places order places p count in
    let new_long = new_long order places count is p count p_low q_low in
    -- each mark of the new order is compared with the old one
    same_marks (marks new (count + 1)) places count index true (length-map new (λ place. nat_lt place (count + 1)) ∙ new_long) low (λ k d low_k.
    let here : get_or (marks new (count + 1)) k d ≡ nat_lt (get_or new k 0) (count + 1) = mark_at new (count + 1) k d (omega (arith, new_long)) in (
      λ same. here ∙ ap (λ n. nat_lt (get_or new n 0) (count + 1)) (same ∙ sym mine) ∙ ap (λ n. nat_lt n (count + 1)) (place_of_a order places count is p count p_low q_low) ∙ lt-ltb count (count + 1) (omega arith),
      λ differ. elim (eqb_tells k b) [
        -- the index with which it changes places was not marked, and is not
        | inl is_b ↦
            let not_same : p ≢ count = λ e. differ (is_b.1 ∙ ap (λ n. get_or order n 0) (sym e) ∙ mine) in
            here ∙ ap (λ n. nat_lt (get_or new n 0) (count + 1)) is_b.1 ∙ ap (λ n. nat_lt n (count + 1)) (place_of_b order places count is p count p_low q_low) ∙ le-ltb p (count + 1) (omega (arith, high, not_same))
            ∙ sym (ap (λ n. nat_lt (get_or places n 0) count) is_b.1 ∙ ap (λ n. nat_lt n count) b_at ∙ le-ltb count count (omega arith))
        -- any other index keeps its place, and so its mark
        | inr not_b ↦
            let other = place_of_other order places count is p count p_low q_low k (λ e. differ (e ∙ mine)) not_b.1 in
            let k_at = is.placed k (omega arith) in
            let not_count : get_or places k 0 ≢ count = λ e. not_b.1 (sym k_at.1 ∙ ap (λ n. get_or order n 0) e) in
            here ∙ ap (λ n. nat_lt n (count + 1)) other ∙ next_test (get_or places k 0) count not_count
      ],
    ))
  where
    -- another number than `count` is below count + 1 exactly if it is below count
    next_test : (x count : ℕ) → x ≢ count → nat_lt x (count + 1) ≡ nat_lt x count
    next_test x count differ = grind (arith, nat_tests)

-- exchanging an index that is marked with the last one that is, and counting one less, takes its mark off and no other
pub marked_less : (order places : List ℕ) (count : ℕ) → IsPlaced order places count → (index p : ℕ) → index < length places → p ≡ get_or places index 0 → p < count
    → marks (exchanged_places order places p (count - 1)) (count - 1) ≡ set (marks places count) index false
marked_less order places count is index p low at under =
    let long = is.long in
    let few = is.few in
    let within : index < length order = omega arith in
    let there = is.placed index within in
    let p_low : p < length order = omega (arith, at, there.0) in
    let q = count - 1 in
    -- the index stands at p, and the last one that is marked at q
    let q_low : q < length order = omega arith in
    let mine : get_or order p 0 ≡ index = ap (λ n. get_or order n 0) at ∙ there.1 in
    let b = get_or order q 0 in
    let b_at : get_or places b 0 ≡ q = (is.ordered q q_low).1 in
    let new = exchanged_places order places p q in
    let new_long = new_long order places count is p q p_low q_low in
    -- each mark of the new order is compared with the old one
    same_marks (marks new q) places count index false (length-map new (λ place. nat_lt place q) ∙ new_long) low (λ k d low_k.
    let here : get_or (marks new q) k d ≡ nat_lt (get_or new k 0) q = mark_at new q k d (omega (arith, new_long)) in (
      λ same. here ∙ ap (λ n. nat_lt (get_or new n 0) q) (same ∙ sym mine) ∙ ap (λ n. nat_lt n q) (place_of_a order places count is p q p_low q_low) ∙ le-ltb q q (omega arith),
      λ differ. elim (eqb_tells k b) [
        -- the index with which it changes places was marked, and still is
        | inl is_b ↦
            let not_same : p ≢ q = λ e. differ (is_b.1 ∙ ap (λ n. get_or order n 0) (sym e) ∙ mine) in
            here ∙ ap (λ n. nat_lt (get_or new n 0) q) is_b.1 ∙ ap (λ n. nat_lt n q) (place_of_b order places count is p q p_low q_low) ∙ lt-ltb p q (omega (arith, under, not_same))
            ∙ sym (ap (λ n. nat_lt (get_or places n 0) count) is_b.1 ∙ ap (λ n. nat_lt n count) b_at ∙ lt-ltb q count (omega arith))
        -- any other index keeps its place, and so its mark
        | inr not_b ↦
            let other = place_of_other order places count is p q p_low q_low k (λ e. differ (e ∙ mine)) not_b.1 in
            let k_at = is.placed k (omega arith) in
            let not_q : get_or places k 0 ≢ q = λ e. not_b.1 (sym k_at.1 ∙ ap (λ n. get_or order n 0) e) in
            here ∙ ap (λ n. nat_lt n q) other ∙ last_test (get_or places k 0) count (omega arith) not_q
      ],
    ))
  where
    -- another number than count - 1 is below it exactly if it is below count
    last_test : (x count : ℕ) → 0 < count → x ≢ count - 1 → nat_lt x (count - 1) ≡ nat_lt x count
    last_test x count some differ = grind (arith, nat_tests)

-- where each index has its place, it has it beside a smaller number of marked ones too
pub narrower : (order places : List ℕ) (count less : ℕ) → IsPlaced order places count → less ≤ count → IsPlaced order places less
narrower order places count less is few = record { long = is.long; few = (let most = is.few in omega (arith, most, few)); placed = is.placed; ordered = is.ordered }

-- the place of an index is within the order
pub place_low : (order places : List ℕ) (count : ℕ) → IsPlaced order places count → (index p : ℕ) → index < length places → p ≡ get_or places index 0 → p < length order
place_low order places count is index p low at = (let long = is.long in let there = is.placed index (omega arith) in omega (arith, at, there.0))

-- exchanging two indices that are both marked, or both not, changes no mark
pub marked_beside : (order places : List ℕ) (count c p q : ℕ) → IsPlaced order places count → p < length order → q < length order → nat_lt p c ≡ nat_lt q c
    → marks (exchanged_places order places p q) c ≡ marks places c
marked_beside order places count c p q is p_low q_low side =
    -- p and q are the two places, both below c or both not; `new` are the places after the exchange, of which each index k has the same mark
    let new = exchanged_places order places p q in
    let long = new_long order places count is p q p_low q_low in
    let size = length-map new (λ place. nat_lt place c) in
    same_lists (marks new c) (marks places c) (size ∙ long ∙ sym (length-map places (λ place. nat_lt place c))) (λ k d low.
    mark_at new c k d (omega (arith, low, size)) ∙ alike k ∙ sym (mark_at places c k d (omega (arith, low, size, long))))
  where
    -- each of the other indices has its mark as before
    alike : (k : ℕ) → nat_lt (get_or (exchanged_places order places p q) k 0) c ≡ nat_lt (get_or places k 0) c
    alike k =
        let new = exchanged_places order places p q in
        elim (eqb_tells k (get_or order p 0)) [
          | inl is_a ↦
              ap (λ i. nat_lt (get_or new i 0) c) is_a.1 ∙ ap (λ n. nat_lt n c) (place_of_a order places count is p q p_low q_low) ∙ sym side
              ∙ sym (ap (λ i. nat_lt (get_or places i 0) c) is_a.1 ∙ ap (λ n. nat_lt n c) (is.ordered p p_low).1)
          -- the other index of the two is at its new place too, and all others keep their places
          | inr not_a ↦ elim (eqb_tells k (get_or order q 0)) [
            | inl is_b ↦
                ap (λ i. nat_lt (get_or new i 0) c) is_b.1 ∙ ap (λ n. nat_lt n c) (place_of_b order places count is p q p_low q_low) ∙ side
                ∙ sym (ap (λ i. nat_lt (get_or places i 0) c) is_b.1 ∙ ap (λ n. nat_lt n c) (is.ordered q q_low).1)
            | inr not_b ↦ ap (λ n. nat_lt n c) (place_of_other order places count is p q p_low q_low k not_a.1 not_b.1)
          ]
        ]

-- an index that is marked has its place below the number of marked ones
pub marked_under : (places : List ℕ) (count index : ℕ) → IsMarked (marks places count) index → (index < length places) × (get_or places index 0 < count)
marked_under places count index is_marked =
    let size = length-map places (λ place. nat_lt place count) in
    let inside = slice_get_within (marks places count) index true is_marked in
    let low : index < length places = omega (arith, inside, size) in
    let test : nat_lt (get_or places index 0) count ≡ true = sym (mark_at places count index true low) ∙ get_or_from_slice_get (marks places count) index true true is_marked in
    (low, ltb-true (get_or places index 0) count test)

-- the place of an index that is not marked is the number of marked ones, or comes after it
pub unmarked_from : (places : List ℕ) (count index : ℕ) → slice_get (marks places count) index ≡ Some false → (index < length places) × (count ≤ get_or places index 0)
unmarked_from places count index is_not =
    let size = length-map places (λ place. nat_lt place count) in
    let inside = slice_get_within (marks places count) index false is_not in
    let low : index < length places = omega (arith, inside, size) in
    let test : nat_lt (get_or places index 0) count ≡ false = sym (mark_at places count index false low) ∙ get_or_from_slice_get (marks places count) index false false is_not in (
      low,
      -- the place of an index without a mark is not below the number of marked ones, since else it would be marked
      elim (cases_lt (get_or places index 0) count) [
        | inl less ↦ absurd (true≢false (sym (lt-ltb (get_or places index 0) count less) ∙ test))
        | inr from ↦ from
      ],
    )

-- What follows is of the indices that stand first in order.

-- the first `count` indices in order are exactly those that are marked
pub front_marked : (order places : List ℕ) (count : ℕ) → IsPlaced order places count → (index : ℕ) → Contains (take count order) index ↔ IsMarked (marks places count) index
front_marked order places count is index =
    let long = is.long in
    let few = is.few in
    let short : length (take count order) ≡ count = length-take-le count order few in (
      -- an index among the first ones has its place there, and so its mark
      λ has.
          let low : has.0 < count = omega (arith, has.1) in
          let at : get_or order has.0 0 ≡ index = get_or_default order has.0 0 index (omega arith) ∙ sym (get_or-take count order has.0 index low) ∙ has.2 in
          let was = is.ordered has.0 (omega arith) in
          let within : index < length places = omega (arith, sym at, was.0) in
          let place : get_or places index 0 ≡ has.0 = ap (λ i. get_or places i 0) (sym at) ∙ was.1 in
          slice_get-get_or (marks places count) index true (omega (arith, length-map places (λ place. nat_lt place count)))
          ∙ ap Some (mark_at places count index true within ∙ ap (λ n. nat_lt n count) place ∙ lt-ltb has.0 count low),
      -- an index that is marked has its place among the first ones
      λ is_marked.
          let there = marked_under places count index is_marked in
          let within = there.0 in
          let under = there.1 in
          let was = is.placed index (omega arith) in
          (get_or places index 0, omega arith, get_or-take count order (get_or places index 0) index under ∙ get_or_default order (get_or places index 0) index 0 was.0 ∙ was.1),
    )

-- no index stands twice among the first `count` in order
pub front_once : (order places : List ℕ) (count : ℕ) → IsPlaced order places count → AllPairs (λ a b. a ≢ b) (take count order)
front_once order places count is i j d less low =
    let few = is.few in
    let short : length (take count order) ≡ count = length-take-le count order few in
    -- i and j are two places among the first `count`: the same index at both would have one place in the order
    let j_low : j < count = omega arith in
    let i_low : i < count = omega arith in
    λ same.
    let first : get_or (take count order) i d ≡ get_or order i 0 = get_or-take count order i d i_low ∙ get_or_default order i d 0 (omega arith) in
    let second : get_or (take count order) j d ≡ get_or order j 0 = get_or-take count order j d j_low ∙ get_or_default order j d 0 (omega arith) in
    omega (arith, same_place order places count is 0 0 (omega arith) (omega arith) i j (omega arith) (omega arith) (sym first ∙ same ∙ second))
