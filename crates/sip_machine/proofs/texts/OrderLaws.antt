-- Laws of the order of hashes and bytes in which a book finds equal bytes.
-- `insert xs i y` is xs with y put in at the place i; `AllWithin P xs i j` says that P holds of the elements from i on and before j;
-- `IsPartitionPoint P Q xs i` that P holds of those before i and Q of those from i on; `IsNonDecreasingBy f xs` that what f gives never falls along xs.
use Rattle.std.specs.Prelude.{◌≡◌, ◌≢◌, ◌<◌, ◌≤◌, ◌+◌, ◌-◌, ◌⊎◌, ℕ, List, [], ◌∷◌, ◌++◌, All, AllPairs, Contains, map, length}
use Rattle.std.specs.List.{insert, drop-map, AllWithin}
use Rattle.std.specs.List.Sorted.{IsNonDecreasingBy, IsPartitionPoint}
use Rattle.std.specs.declared.cmp.Ordering.{Ordering}
use Rattle.std.specs.declared.cmp.Ordering.TheVariants.{Less, Equal, Greater}
use Rattle.std.specs.Ordering.{nat_cmp, ordering_then, ordering_index, ordering_reverse, is_lt, is_eq}
use Rattle.std.specs.Cmp.Lexicographic.{slice_cmp}
use Rattle.std.proofs.Common.{inl, inr, Result, Ok, Err, OnOk, OnErr, refl, sym, ◌∙◌, ap, ap₂, subst, arith, get_or, take, drop}
use Rattle.std.proofs.lemmas.Bool.{cases_lt}
use Rattle.std.proofs.lemmas.Bool.Decides.{eqb_tells, nat_tests}
use Rattle.std.proofs.lemmas.Cmp.{nat_cmp_total, tied_itself}
use Rattle.std.proofs.lemmas.Map.Text.{is_eq-slice_cmp}
use Rattle.std.proofs.lemmas.Slice.Eq.{bytes_eq-Decides}
use Rattle.std.proofs.lemmas.List.{map-append, get_or_append_left, get_or-append-add, take-append-drop, get_or-map, length-map, length-append, take-map}
use Rattle.std.proofs.lemmas.List.Edits.{length-insert, get_or-insert_below, get_or-insert_at, get_or-insert_above}
use Rattle.std.proofs.lemmas.List.Elements.{All-get_or, All-from_get_or, All-append, All-cons, All-take, All-drop, All-weaker, All-from_all_within, Contains-append_left, Contains-append_right, Contains-append_cases, Contains-get_or}
use Rattle.std.proofs.lemmas.List.Sorted.{searchable_from_sorted}
use Rattle.sip_machine.specs.Texts.{Texts}
use Rattle.sip_machine.specs.declared.book.KeptMessage.{KeptMessage}
use Rattle.sip_machine.specs.declared.book.Place.{Place}
use Rattle.sip_machine.specs.inner.Order.{texts_of, hash_of, bytes_at, key_of, compare, IsPlace, IsOrder, IsGap}
use Rattle.sip_machine.proofs.texts.HashLaws.{compare-total}

-- where R relates each pair of a list, each element before place i to y, and y to each from there on, it relates each pair with y inserted at i
pub AllPairs-insert : {X : Type 0} (R : X → X → Type 0) (xs : List X) (i : ℕ) (y : X) → i ≤ length xs → AllPairs R xs →
    AllWithin (λ x. R x y) xs 0 i → AllWithin (λ x. R y x) xs i (length xs) → AllPairs R (insert xs i y)
AllPairs-insert R xs i y within pairs before after a b d lt end =
    let new = insert xs i y in
    let size = length-insert xs i y within in
    let low : b ≤ length xs = omega (arith, size) in
    -- before i the list has the old elements, at i it has y, and after i the old ones, one further on
    let below : (k : ℕ) → k < i → get_or new k d ≡ get_or xs k d = λ k under. get_or-insert_below xs i y d k under within in
    let here : get_or new i d ≡ y = get_or-insert_at xs i y d within in
    let above : (k : ℕ) → i < k → get_or new k d ≡ get_or xs (k - 1) d = λ k over. subst (λ q. get_or new q d ≡ get_or xs (k - 1) d) {x = k - 1 + 1} (omega arith) (get_or-insert_above xs i y d (k - 1) (omega arith) within) in
    elim (cases_lt b i) [
      -- b stands before i, at i, or after it
      | inl b_below ↦ rw (below b b_below, below a (omega arith)) (pairs a b d lt (omega arith))
      | inr b_from ↦ elim (eqb_tells b i) [
        | inl b_here ↦ rw (b_here.1, here, below a (omega arith)) (before a d (omega arith) (omega arith))
        | inr b_past ↦
            -- b stands after i, and a before i, at i, or after it
            let b_above : i < b = omega (arith, b_past.1) in
            elim (cases_lt a i) [
              -- both are old elements, or a is y, which R relates to each old one from there on
              | inl a_below ↦ rw (above b b_above, below a a_below) (pairs a (b - 1) d (omega arith) (omega arith))
              | inr a_from ↦ elim (eqb_tells a i) [
                | inl a_here ↦ rw (a_here.1, above b b_above, here) (after (b - 1) d (omega arith) (omega arith))
                | inr a_past ↦ rw (above b b_above, above a (omega (arith, a_past.1))) (pairs (a - 1) (b - 1) d (omega (arith, a_past.1)) (omega arith))
              ]
            ]
      ]
    ]

-- places in order never fall in how they compare with a key, so that a search by halves finds the key among them
pub searchable : (texts : Texts) (places : List Place) (key : ℕ × List ℕ) →
    AllPairs (λ a b. compare (key_of texts a) (key_of texts b) ≡ Less) places →
    IsNonDecreasingBy (λ place. ordering_index (compare (key_of texts place) key)) places
searchable texts places key rising =
    searchable_from_sorted compare-total (key_of texts) places key
    (λ k d low high.
    -- each place compares as less than the next one
    let less = rising k (k + 1) d (omega arith) high in
    ap is_lt (compare-total.antisymm (key_of texts (get_or places (k + 1) d)) (key_of texts (get_or places k d)) ∙ ap ordering_reverse less))

-- an answer that two things are equal is neither that the one is less nor that it is greater
never-equal : (o : Ordering) → o ≡ Equal → (o ≡ Less) ⊎ (o ≡ Greater) → ⊥
never-equal Less equal other = absurd (omega (arith, ap ordering_index equal))
never-equal Equal equal (inl less) = absurd (omega (arith, ap ordering_index less))
never-equal Equal equal (inr greater) = absurd (omega (arith, ap ordering_index greater))
never-equal Greater equal other = absurd (omega (arith, ap ordering_index equal))

-- where two comparisons, of which the second counts if the first says `Equal`, come to `Equal`, the second one says `Equal`
then-equal : (a b : Ordering) → ordering_then a b ≡ Equal → b ≡ Equal
then-equal Less b e = absurd (omega (arith, ap ordering_index e))
then-equal Equal b e = e
then-equal Greater b e = absurd (omega (arith, ap ordering_index e))

-- two messages that compare as equal have the same bytes
pub same_bytes : (a b : ℕ × List ℕ) → compare a b ≡ Equal → a.1 ≡ b.1
same_bytes a b e = (bytes_eq-Decides a.1 b.1).0 (sym (is_eq-slice_cmp a.1 b.1) ∙ ap is_eq (then-equal (nat_cmp a.0 b.0) (slice_cmp nat_cmp a.1 b.1) e))

-- the bytes of a message stay when another one is added
bytes_at-grow : (texts : Texts) (text : ℕ × List ℕ) (position : ℕ) → position < length texts →
    bytes_at (texts ++ text ∷ []) position ≡ bytes_at texts position
bytes_at-grow texts text position low = ap (λ t. t.1) (get_or_append_left texts (text ∷ []) (0, []) position low)

-- the bytes at the place after all messages are those of the message that is added
bytes_at-added : (texts : Texts) (number : ℕ) (bytes : List ℕ) → bytes_at (texts ++ (number, bytes) ∷ []) (length texts) ≡ bytes
bytes_at-added texts number bytes =
    let grown : Texts = texts ++ (number, bytes) ∷ [] in
    let last : length texts ≡ length texts + 0 = omega arith in
    ap (λ t. t.1) (ap (λ n. get_or grown n (0, [])) last ∙ get_or-append-add texts ((number, bytes) ∷ []) 0 (0, []))

-- a place that compares as equal to a key is that of a message with the key's bytes
pub found : (texts : Texts) (places : List Place) (key : ℕ × List ℕ) (at : ℕ) (d : Place) → IsOrder texts places → at < length places →
    compare (key_of texts (get_or places at d)) key ≡ Equal →
    ((get_or places at d).position < length texts) × (bytes_at texts (get_or places at d).position ≡ key.1)
found texts places key at d order low equal = (
  (All-get_or (IsPlace texts) places at d low order.hashed).0,
  same_bytes (key_of texts (get_or places at d)) key equal,
)

-- where the places have a gap for some bytes, no message has them
pub none_in_gap : (texts : Texts) (places : List Place) (bytes : List ℕ) (i : ℕ) → IsOrder texts places →
    IsGap texts (hash_of bytes, bytes) places i → All (λ kept. kept.1 ≢ bytes) texts
none_in_gap texts places bytes i order gap =
    All-from_get_or (λ kept. kept.1 ≢ bytes) texts (0, []) (λ k low same.
    let none : Place = record { hash = 0; position = 0 } in
    -- a message with the bytes would have a place j
    let at = order.whole k low in
    let j = at.0 in
    let within : j < length places = rw length-map at (at.1) in
    let place = get_or places j none in
    let position : place.position ≡ k = sym (get_or-map (λ p. p.position) places j none k within) ∙ at.2 in
    let kept : bytes_at texts place.position ≡ bytes = ap (bytes_at texts) position ∙ same in
    -- the place ties with the bytes, and so it stands neither before the gap nor after it
    let hash : place.hash ≡ hash_of (bytes_at texts place.position) =
    (All-get_or (IsPlace texts) places j none within order.hashed).1 in
    let tie : compare (key_of texts place) (hash_of bytes, bytes) ≡ Equal =
    rw (hash, kept) (tied_itself compare-total (hash_of bytes, bytes)) in
    -- before the gap it would be less, and after it greater
    never-equal (compare (key_of texts place) (hash_of bytes, bytes)) tie (elim (cases_lt j i) [
      | inl below ↦ inl (gap.before j none (omega arith) below)
      | inr from ↦ inr (gap.after j none from within)
    ]))

-- an element of a list is in the list with another one inserted
-- x is the element, and y the one that is inserted at the place i
Contains-insert : {X : Type 0} (xs : List X) (i : ℕ) (y x : X) → Contains xs x → Contains (insert xs i y) x
Contains-insert xs i y x has =
    elim (Contains-append_cases (take i xs) (drop i xs) x (rw take-append-drop has)) [
      | inl first ↦ Contains-append_left (take i xs) (y ∷ drop i xs) x first
      | inr rest ↦ Contains-append_right (take i xs) (y ∷ drop i xs) x (Contains-append_right (y ∷ []) (drop i xs) x rest)
    ]

-- an inserted element is in the list
Contains-inserted : {X : Type 0} (xs : List X) (i : ℕ) (y : X) → Contains (insert xs i y) y
Contains-inserted xs i y = Contains-append_right (take i xs) (y ∷ drop i xs) y (Contains-get_or (y ∷ drop i xs) 0 y (omega arith))

-- the map of a list with y inserted is the map of the list with f y inserted
map-insert : {X Y : Type 0} (f : X → Y) (xs : List X) (i : ℕ) (y : X) → map f (insert xs i y) ≡ insert (map f xs) i (f y)
map-insert f xs i y = rw (map-append, take-map, drop-map) refl

-- where the place of a message is inserted in the gap of its bytes, the places are the order of the book with the message
pub IsOrder-grow : (texts : Texts) (places : List Place) (number : ℕ) (bytes : List ℕ) (i : ℕ) → IsOrder texts places →
    IsGap texts (hash_of bytes, bytes) places i →
    IsOrder (texts ++ (number, bytes) ∷ []) (insert places i (record { hash = hash_of bytes; position = length texts }))
IsOrder-grow texts places number bytes i order gap =
    let grown : Texts = texts ++ (number, bytes) ∷ [] in
    let added : Place = record { hash = hash_of bytes; position = length texts } in
    let size : length grown ≡ length texts + 1 = length-append texts ((number, bytes) ∷ []) in
    -- the old places tell the same keys in the book that has grown
    let old : (k : ℕ) (d : Place) → k < length places → key_of grown (get_or places k d) ≡ key_of texts (get_or places k d) = λ k d low.
    let place = get_or places k d in
    let here = (All-get_or (IsPlace texts) places k d low order.hashed).0 in
    ap (λ b. (place.hash, b)) (bytes_at-grow texts (number, bytes) place.position here) in
    -- the new place tells the new bytes with their hash, and an old place is one of the book that has grown
    let new : key_of grown added ≡ (hash_of bytes, bytes) = ap (λ b. (hash_of bytes, b)) (bytes_at-added texts number bytes) in
    let kept : (p : Place) → IsPlace texts p → IsPlace grown p = λ p is.
    (omega (arith, size, is.0), is.1 ∙ ap hash_of (sym (bytes_at-grow texts (number, bytes) p.position is.0))) in
    let hashed : All (IsPlace grown) places =
    All-weaker (IsPlace texts) (IsPlace grown) kept places order.hashed in
    -- the places with the new one among them are the order of the book with the new message
    record {
      -- the keys of the old places are as they were and rise, those in front are less than the new one, and those behind it are greater
      rising = AllPairs-insert (λ a b. compare (key_of grown a) (key_of grown b) ≡ Less) places i added gap.within
          (λ a b d lt end. ap₂ compare (old a d (omega arith)) (old b d end) ∙ order.rising a b d lt end)
          (λ k d low high. ap₂ compare (old k d (omega (arith, gap.within))) new ∙ gap.before k d low high)
          (λ k d low high. ap₂ compare new (old k d high)
          ∙ compare-total.antisymm (hash_of bytes, bytes) (key_of texts (get_or places k d)) ∙ ap ordering_reverse (gap.after k d low high));
      -- each place, old or new, is that of a message and has the hash of its bytes
      hashed = All-append (IsPlace grown) (take i places) (added ∷ drop i places) (All-take (IsPlace grown) i places hashed)
          (All-cons (IsPlace grown) added (drop i places) (omega (arith, size), ap hash_of (sym (bytes_at-added texts number bytes))) (All-drop (IsPlace grown) i places hashed));
      -- each message has its place, the new one that of the gap
      whole = λ k low. elim (eqb_tells k (length texts)) [
        | inl same ↦ rw (map-insert, same.1) (Contains-inserted (map (λ p. p.position) places) i (length texts))
        | inr other ↦ rw map-insert (Contains-insert (map (λ p. p.position) places) i (length texts) k (order.whole k (omega (arith, size, other.1))))
      ];
    }

-- messages in the order of their numbers never fall in how they compare with a number, so that a search by halves finds it among them
pub numbers_searchable : (kept : List KeptMessage) (number : ℕ) → AllPairs (λ a b. a.0 < b.0) (texts_of kept) →
    IsNonDecreasingBy (λ k. ordering_index (nat_cmp k.number number)) kept
numbers_searchable kept number rising =
    searchable_from_sorted nat_cmp_total (λ k. k.number) kept number
    (λ k d low high.
    -- k and k + 1 are neighbouring places of the list, whose numbers rise
    let text : KeptMessage → ℕ × List ℕ = λ k. (k.number, k.bytes.items) in
    let first = get_or-map text kept k d (text d) (omega arith) in
    let second = get_or-map text kept (k + 1) d (text d) high in
    let less = rw (first, second) at (rising k (k + 1) (text d) (omega arith) (rw length-map high)) in
    grind (arith, nat_tests))

-- where all messages before a point have a lower number, and all from there on a higher one, none has the number
pub no_number : (kept : List KeptMessage) (number i : ℕ) →
    IsPartitionPoint (λ k. nat_cmp k.number number ≡ Less) (λ k. nat_cmp k.number number ≡ Greater) kept i → All (λ k. k.number ≢ number) kept
no_number kept number i parted = grind (arith, nat_tests, All-from_all_within, tied_itself, nat_cmp_total, never-equal, cases_lt)

-- the bytes at a position of the code's messages are those of the message there
pub bytes_at-kept : (kept : List KeptMessage) (position : ℕ) (k : KeptMessage) → position < length kept → k ≡ get_or kept position k →
    bytes_at (texts_of kept) position ≡ k.bytes.items
bytes_at-kept kept position k low is =
    ap (λ (t : ℕ × List ℕ). t.1) (get_or-map (λ k. (k.number, k.bytes.items)) kept position k (0, []) low) ∙ sym (ap (λ k. k.bytes.items) is)

-- what follows where the result is a value, and also where it is an error, follows
-- r is a result with a value of T or an error of E, of which P or Q holds, and G is what follows
pub by_result : {T E G : Type 0} (r : Result T E) {P Q : Type 0} → OnOk r P → OnErr r Q → (P → G) → (Q → G) → G
by_result (Ok x) ok err from_ok from_err = from_ok ok
by_result (Err e) ok err from_ok from_err = from_err err
