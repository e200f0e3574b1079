-- Laws of the runs in which a book holds its places.
-- Where a place is read from a list (`get_or xs i first`), `first` stands for what is past the end: any place will do.
-- The rank of an ordering (`ordering_index`) is 0 for `Less`, 1 for `Equal` and 2 for `Greater`. `set xs i y` is xs with y in the place i, and `insert xs i y`
-- xs with y put in there. `IsPartitionPoint P Q xs i` says that P holds of the elements before i and Q of those from i on; `IsPartitionedBy p xs` that no
-- element that passes comes after one that fails; `IsNonDecreasingBy f xs` that what f gives never falls.
use Rattle.std.specs.Prelude.{◌≡◌, ◌<◌, ◌≤◌, ◌+◌, ◌-◌, ◌⊎◌, ℕ, true, false, List, [], ◌∷◌, ◌++◌, length, take, All}
use Rattle.std.specs.List.{insert}
use Rattle.std.specs.List.Sorted.{IsNonDecreasingBy, IsPartitionedBy, IsPartitionPoint}
use Rattle.std.specs.declared.cmp.Ordering.{Ordering}
use Rattle.std.specs.declared.cmp.Ordering.TheVariants.{Less, Equal, Greater}
use Rattle.std.specs.Ordering.{ordering_index, is_le}
use Rattle.std.proofs.Common.{Result, Ok, Err, OnErr, refl, sym, ◌∙◌, ap, subst, arith, get_or, set, drop, inl, inr, append_assoc}
use Rattle.std.proofs.lemmas.Bool.Decides.{nat_tests, eqb_tells}
use Rattle.std.proofs.Math.Seq.{take-append-add, drop-append-add}
use mathlib.Core.Bool.{false≢true}
use Rattle.std.proofs.lemmas.Bool.{cases_lt}
use Rattle.std.proofs.lemmas.List.{append-nil, take-append-drop, take-append-le, drop-append-le, drop_more, set_split, take_more_set, drop-set-lt, take_more, take_all, take-take, get_or-take, length-take-le, length-drop, length-append, get_or_default}
use Rattle.std.proofs.lemmas.List.Concat.{flat_map-append, get_or-flat_map}
use Rattle.std.proofs.lemmas.List.Folds.{length-flat_map-take}
use Rattle.std.proofs.lemmas.List.Elements.{All-get_or, All-set, All-append, All-take, All-cons, All-drop}
use Rattle.sip_machine.specs.Texts.{Texts}
use Rattle.sip_machine.specs.declared.book.Place.{Place}
use Rattle.sip_machine.specs.declared.book.PlaceRun.{PlaceRun}
use Rattle.sip_machine.specs.declared.book.Gap.{Gap}
use Rattle.sip_machine.specs.inner.Order.{key_of, bytes_at, compare, begins_by, places_of, index_of, IsLed, IsInRuns, IsGap}
use Rattle.sip_machine.proofs.texts.OrderLaws.{searchable, found}

-- the places of a run
abbrev items : PlaceRun → List Place
items run = run.places.items

-- an insert at place i of the second of three lists is an insert into all three, i places after the first
-- a, b and c are the lists, and y is what is inserted
insert-within : {X : Type 0} (a b c : List X) (i : ℕ) (y : X) → i ≤ length b →
    insert (a ++ (b ++ c)) (length a + i) y ≡ a ++ (insert b i y ++ c)
insert-within a b c i y low = grind (arith, take-append-add, drop-append-add, take-append-le, drop-append-le, append_assoc)

-- all places are those of the runs before run r, those of run r, and those of the runs after it
places-around : (runs : List PlaceRun) (r : ℕ) (d : PlaceRun) → r < length runs →
    places_of runs ≡ places_of (take r runs) ++ (items (get_or runs r d) ++ places_of (drop (r + 1) runs))
places-around runs r d low =
    ap places_of (sym (take-append-drop r runs)) ∙ flat_map-append items (take r runs) (drop r runs)
    ∙ ap (λ rest. places_of (take r runs) ++ places_of rest) (drop_more runs r d low)

-- where run r is replaced, all places are those of the runs before it, those of the new run, and those of the runs after it
places-set : (runs : List PlaceRun) (r : ℕ) (run : PlaceRun) → r < length runs →
    places_of (set runs r run) ≡ places_of (take r runs) ++ (items run ++ places_of (drop (r + 1) runs))
places-set runs r run low = grind (arith, nat_tests, set_split, flat_map-append)

-- where run r is replaced by one with the same places, all places stay
pub places-kept : (runs : List PlaceRun) (r : ℕ) (d run : PlaceRun) → r < length runs → items run ≡ items (get_or runs r d) →
    places_of (set runs r run) ≡ places_of runs
places-kept runs r d run low same =
    places-set runs r run low ∙ ap (λ run. places_of (take r runs) ++ (run ++ places_of (drop (r + 1) runs))) same ∙ sym (places-around runs r d low)

-- where a run gets one place more in the gap, the place is inserted into all places at the index of the gap
pub places-inserted : (runs : List PlaceRun) (gap : Gap) (place : Place) (d run : PlaceRun) → gap.run < length runs →
    gap.place ≤ length (items (get_or runs gap.run d)) → items run ≡ insert (items (get_or runs gap.run d)) gap.place place →
    places_of (set runs gap.run run) ≡ insert (places_of runs) (index_of runs gap) place
places-inserted runs gap place d run low within is =
    let before = places_of (take gap.run runs) in
    let after = places_of (drop (gap.run + 1) runs) in
    -- all places are those before the run, those of the run and those after it, and the new one comes into those of the run
    places-set runs gap.run run low ∙ ap (λ run. before ++ (run ++ after)) is
    ∙ sym (insert-within before (items (get_or runs gap.run d)) after gap.place place within)
    ∙ ap (λ all. insert all (index_of runs gap) place) (sym (places-around runs gap.run d low))

-- where a run is replaced by its two halves, all places stay
-- r is the number of the run, n how many places its first half has, and d stands for no run
pub places-halved : (runs : List PlaceRun) (r n : ℕ) (d first second : PlaceRun) → r < length runs →
    items first ≡ take n (items (get_or runs r d)) → items second ≡ drop n (items (get_or runs r d)) →
    places_of (insert (set runs r first) (r + 1) second) ≡ places_of runs
places-halved runs r n d first second low head tail =
    let before = places_of (take r runs) in
    let after = places_of (drop (r + 1) runs) in
    let run = items (get_or runs r d) in
    -- the runs are those before, the two halves, and those after
    let split : insert (set runs r first) (r + 1) second ≡ (take r runs ++ first ∷ []) ++ second ∷ drop (r + 1) runs =
    rw (take_more_set runs r first low, drop-set-lt (r + 1) runs r first (omega arith)) refl in
    ap places_of split ∙ flat_map-append items (take r runs ++ first ∷ []) (second ∷ drop (r + 1) runs)
    ∙ ap (λ all. all ++ (items second ++ after)) (flat_map-append items (take r runs) (first ∷ []) ∙ ap (λ run. before ++ run) (append-nil (items first) ∙ head))
    ∙ ap (λ run. (before ++ take n (items (get_or runs r d))) ++ (run ++ after)) tail
    ∙ append_assoc before (take n run) (drop n run ++ after)
    ∙ ap (λ all. before ++ all) (sym (append_assoc (take n run) (drop n run) after) ∙ ap (λ run. run ++ after) (take-append-drop n run))
    ∙ sym (places-around runs r d low)

-- the places up to run i and in it are no more than those before a later run
run_ends : (runs : List PlaceRun) (i j : ℕ) (d : PlaceRun) → i < j → j ≤ length runs →
    length (places_of (take i runs)) + length (items (get_or runs i d)) ≤ length (places_of (take j runs))
run_ends runs i j d lt low =
    rw (take-take i j runs (omega arith), get_or-take j runs i d lt) at
    (length-flat_map-take items (take j runs) i d (rw (length-take-le j runs low) lt))

-- the places up to the next run are those before run r and those in it
run_size : (runs : List PlaceRun) (r : ℕ) (d : PlaceRun) → r < length runs →
    length (places_of (take (r + 1) runs)) ≡ length (places_of (take r runs)) + length (items (get_or runs r d))
run_size runs r d low =
    ap (λ all. length (places_of all)) (take_more runs r d low)
    ∙ ap length (flat_map-append items (take r runs) (get_or runs r d ∷ []) ∙ ap (λ run. places_of (take r runs) ++ run) (append-nil (items (get_or runs r d))))
    ∙ length-append (places_of (take r runs)) (items (get_or runs r d))

-- the place that is read past the end of a list, where any one will do
abbrev first : Place
first = record { hash = 0; position = 0 }

-- 0, 1 or 2 where the message at a place is less than the key, the same or greater
abbrev rank : Texts → ℕ × List ℕ → Place → ℕ
rank texts key place = ordering_index (compare (key_of texts place) key)

-- an ordering whose rank is 0 is `Less`
less_of_rank : (o : Ordering) → ordering_index o ≤ 0 → o ≡ Less
less_of_rank Less low = refl
less_of_rank Equal low = absurd (omega arith)
less_of_rank Greater low = absurd (omega arith)

-- an ordering whose rank is 2 or more is `Greater`
greater_of_rank : (o : Ordering) → 2 ≤ ordering_index o → o ≡ Greater
greater_of_rank Less high = absurd (omega arith)
greater_of_rank Equal high = absurd (omega arith)
greater_of_rank Greater high = refl

-- an ordering whose rank is at most 1 is `Less` or `Equal`
begun_of_rank : (o : Ordering) → ordering_index o ≤ 1 → is_le o ≡ true
begun_of_rank Less low = refl
begun_of_rank Equal low = refl
begun_of_rank Greater low = absurd (omega arith)

-- the rank of `Less` and of `Equal` is at most 1
rank_of_begun : (o : Ordering) → is_le o ≡ true → ordering_index o ≤ 1
rank_of_begun Less begun = omega arith
rank_of_begun Equal begun = omega arith
rank_of_begun Greater begun = absurd (false≢true begun)

-- the rank of an ordering that is neither `Less` nor `Equal` is 2
rank_of_later : (o : Ordering) → is_le o ≡ false → 2 ≤ ordering_index o
rank_of_later Less later = absurd (false≢true (sym later))
rank_of_later Equal later = absurd (false≢true (sym later))
rank_of_later Greater later = omega arith

-- a run begins by a key exactly if the first of its places does
begins : (texts : Texts) (key : ℕ × List ℕ) (run : PlaceRun) → IsLed run →
    begins_by texts key run ≡ is_le (compare (key_of texts (get_or (items run) 0 first)) key)
begins texts key run led = ap (λ place. is_le (compare (key_of texts place) key)) (led.first ∙ get_or_default (items run) 0 run.first first led.filled)

-- where a run is replaced by its two halves, each with its first place told, all runs tell their first place
-- r is the number of the run, n how many places its first half has, and d stands for no run
pub led_halved : (runs : List PlaceRun) (r n : ℕ) (d head tail : PlaceRun) → r < length runs → All IsLed runs → 0 < n → n < length (items (get_or runs r d)) →
    head.first ≡ (get_or runs r d).first → items head ≡ take n (items (get_or runs r d)) → items tail ≡ drop n (items (get_or runs r d)) →
    tail.first ≡ get_or (items tail) 0 tail.first → All IsLed (insert (set runs r head) (r + 1) tail)
led_halved runs r n d head tail low led some more begins front behind begins' =
    let run = get_or runs r d in
    let old : IsLed run = All-get_or IsLed runs r d low led in
    -- the halves are not empty
    let size : length (items head) ≡ n = ap length front ∙ length-take-le n (items run) (omega arith) in
    let rest : length (items tail) ≡ length (items run) - n = ap length behind ∙ length-drop n (items run) in
    let led_head : IsLed head = record {
      filled = omega (arith, size);
      first = begins ∙ old.first ∙ get_or_default (items run) 0 run.first head.first old.filled
          ∙ sym (ap (λ places. get_or places 0 head.first) front ∙ get_or-take n (items run) 0 head.first some);
    } in
    -- the second half tells its first place, and the first half that of the run
    let led_tail : IsLed tail = record { filled = omega (arith, rest); first = begins' } in
    let all = All-set IsLed runs r head led_head led in
    All-append IsLed (take (r + 1) (set runs r head)) (tail ∷ drop (r + 1) (set runs r head)) (All-take IsLed (r + 1) (set runs r head) all)
    (All-cons IsLed tail (drop (r + 1) (set runs r head)) led_tail (All-drop IsLed (r + 1) (set runs r head) all))

-- the place at j of run r stands at j after the places before the run
place_at : (runs : List PlaceRun) (r j : ℕ) (d : PlaceRun) (e : Place) → r < length runs → j < length (items (get_or runs r d)) →
    get_or (places_of runs) (length (places_of (take r runs)) + j) e ≡ get_or (items (get_or runs r d)) j e
place_at runs r j d e low within = get_or-flat_map items runs r j d e low within

-- What follows is of a book whose places stand in runs, and of `key`, the hash and the bytes that are searched in it.
module _ (texts : Texts) (runs : List PlaceRun) (key : ℕ × List ℕ) (held : IsInRuns texts runs) where
  -- each run tells its first place
  led_at : (r : ℕ) (d : PlaceRun) → r < length runs → IsLed (get_or runs r d)
  led_at r d low = All-get_or IsLed runs r d low held.led

  -- where a run begins by the key, so do all before it
  pub partitioned : IsPartitionedBy (begins_by texts key) runs
  partitioned i j d le high begun =
      elim (cases_lt i j) [
        | inl less ↦
            let low : i < length runs = omega arith in
            let off_i = length (places_of (take i runs)) in
            let off_j = length (places_of (take j runs)) in
            -- both runs tell their first place, and the places of the first come before those of the second
            let led_i = led_at i d low in
            -- `first` stands for no place; the places of run i end before those of run j begin, and the first place of run j stands among all places
            let led_j = led_at j d high in
            let ends = run_ends runs i j d less (omega arith) in
            let room = length-flat_map-take items runs j d high in
            -- the first place of run j is before the key or is the key, since the run begins by it
            let later = rank_of_begun (compare (key_of texts (get_or (items (get_or runs j d)) 0 first)) key) (sym (begins texts key (get_or runs j d) led_j) ∙ begun) in
            -- a run before one that begins by the key begins by it too
            -- the first place of run i stands before it, so it ranks no higher against the key
            let up = rw (place_at runs i 0 d first low led_i.filled, place_at runs j 0 d first high led_j.filled) at
            (searchable texts (places_of runs) key held.order.rising (off_i + 0) (off_j + 0) first (omega arith) (omega arith)) in
            begins texts key (get_or runs i d) led_i ∙ begun_of_rank (compare (key_of texts (get_or (items (get_or runs i d)) 0 first)) key) (omega (arith, up, later))
        -- else both are one run
        | inr from ↦ let same : i ≡ j = omega arith in rw same begun
      ]

  -- the places of a run never fall in how they compare with the key, so that a search by halves finds it among them
  pub run_rises : (r : ℕ) (d : PlaceRun) → r < length runs → IsNonDecreasingBy (rank texts key) (items (get_or runs r d))
  run_rises r d low i j e le within =
      let off = length (places_of (take r runs)) in
      let room = length-flat_map-take items runs r d low in
      rw (place_at runs r i d e low (omega arith), place_at runs r j d e low within) at
      (searchable texts (places_of runs) key held.order.rising (off + i) (off + j) e (omega arith) (omega arith))

  -- a place of a run that compares as equal to a key is that of a message with the key's bytes
  -- r is the number of the run, and `at` the place within it; d stands for no run, and e for no place
  pub found_in_run : (r at : ℕ) (d : PlaceRun) (e : Place) → r < length runs → at < length (items (get_or runs r d)) →
      compare (key_of texts (get_or (items (get_or runs r d)) at e)) key ≡ Equal →
      ((get_or (items (get_or runs r d)) at e).position < length texts)
      × (bytes_at texts (get_or (items (get_or runs r d)) at e).position ≡ key.1)
  found_in_run r at d e low within equal =
      -- the places before the run are `off`, so that its place `at` is the place off + at of all
      let off = length (places_of (take r runs)) in
      let room = length-flat_map-take items runs r d low in
      let here = place_at runs r at d e low within in
      rw here at (found texts (places_of runs) key (off + at) e held.order (omega arith) (ap (λ p. compare (key_of texts p) key) here ∙ equal))

  -- a gap for the key in the last run that begins by it, or in the first run, is a gap among all places
  pub gap_in_runs : (begun r place : ℕ) (d : PlaceRun) → r < length runs → (r ≡ 0) ⊎ (r < begun) → begun ≤ r + 1 →
      IsPartitionPoint (λ run. begins_by texts key run ≡ true) (λ run. begins_by texts key run ≡ false) runs begun →
      place ≤ length (items (get_or runs r d)) →
      IsPartitionPoint (λ p. compare (key_of texts p) key ≡ Less) (λ p. compare (key_of texts p) key ≡ Greater) (items (get_or runs r d)) place →
      IsGap texts key (places_of runs) (length (places_of (take r runs)) + place)
  gap_in_runs begun r place d low chosen next parts within parted =
      -- `off` is how many places stand before this run
      let off = length (places_of (take r runs)) in
      let run = get_or runs r d in
      let all = places_of runs in
      let led = led_at r d low in
      let room = length-flat_map-take items runs r d low in
      -- the places of all runs rise, and those of this run lie together
      let up = searchable texts all key held.order.rising in
      let begin = place_at runs r 0 d first low led.filled in
      let front = compare (key_of texts (get_or (items run) 0 first)) key in
      -- the gap lies within this run
      record {
        within = omega arith;
        -- a place before the gap is less than the key
        before = λ k e zero under. elim (cases_lt k off) [
          -- the place stands in an earlier run, and is not after the first place of this one
          | inl earlier ↦ elim chosen [
            | inl none ↦ let empty : off ≡ 0 = rw none refl in absurd (omega arith)
            | inr past ↦
                let top : ordering_index front ≤ 1 = rank_of_begun front (sym (begins texts key run led) ∙ parts.0 r d (omega arith) past) in
                let lowest : ordering_index front ≤ 0 = elim (eqb_tells place 0) [
                  -- the first place of this run is not greater than the key, and it is less, since the gap comes after it
                  | inl start ↦ absurd (omega (arith, top, ap ordering_index (parted.1 0 first (omega (arith, start.1)) led.filled)))
                  | inr some ↦ omega (arith, ap ordering_index (parted.0 0 first (omega arith) (omega (arith, some.1))))
                ] in
                let step = rw begin at (up k (off + 0) first (omega arith) (omega arith)) in
                let less = less_of_rank (compare (key_of texts (get_or all k first)) key) (omega (arith, step, lowest)) in
                subst (λ p. compare (key_of texts p) key ≡ Less) (get_or_default all k first e (omega arith)) less
          ]
          -- the place stands in this run
          | inr from ↦
              let j = k - off in
              let is : off + j ≡ k = omega arith in
              subst (λ n. compare (key_of texts (get_or all n e)) key ≡ Less) is
              (ap (λ p. compare (key_of texts p) key) (place_at runs r j d e low (omega arith)) ∙ parted.0 j e (omega arith) (omega arith))
        ];
        -- a place from the gap on is greater than the key
        after = λ k e over end. elim (cases_lt k (off + length (items run))) [
          -- the place stands in this run
          | inl inside ↦
              let j = k - off in
              let is : off + j ≡ k = omega arith in
              subst (λ n. compare (key_of texts (get_or all n e)) key ≡ Greater) is
              (ap (λ p. compare (key_of texts p) key) (place_at runs r j d e low (omega arith)) ∙ parted.1 j e (omega arith) (omega arith))
          -- the place stands in a later run, and is not before the first place of the next one
          | inr later ↦
              let size = run_size runs r d low in
              elim (cases_lt (r + 1) (length runs)) [
                -- the first place of the next run is greater than the key, and so is each place after it
                | inl more ↦
                    let led' = led_at (r + 1) d more in
                    let begin' = place_at runs (r + 1) 0 d first more led'.filled in
                    let front' = compare (key_of texts (get_or (items (get_or runs (r + 1) d)) 0 first)) key in
                    -- the next run does not begin by the key, so its first place is greater than the key
                    let high : 2 ≤ ordering_index front' = rank_of_later front' (sym (begins texts key (get_or runs (r + 1) d) led') ∙ parts.1 (r + 1) d next more) in
                    let step = rw begin' at (up (length (places_of (take (r + 1) runs)) + 0) k first (omega (arith, size)) end) in
                    let greater = greater_of_rank (compare (key_of texts (get_or all k first)) key) (omega (arith, step, high)) in
                    subst (λ p. compare (key_of texts p) key ≡ Greater) (get_or_default all k first e end) greater
                -- there is no later run
                | inr last ↦
                    let whole : length all ≡ length (places_of (take (r + 1) runs)) = ap (λ l. length (places_of l)) (sym (take_all (r + 1) runs last)) in
                    absurd (omega (arith, whole, size))
              ]
        ];
      }

-- a fact that holds anyway holds where a result is an error
pub always_err : {A E : Type 0} (r : Result A E) (P : Type 0) → P → OnErr r P
always_err (Ok x) P p = tt
always_err (Err e) P p = p
