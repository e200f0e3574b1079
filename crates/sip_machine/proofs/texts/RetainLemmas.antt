-- What a book holds once the messages of some numbers alone are kept.
-- In the lemmas t is the first message of a book with its number, and ts are the others; n is a number, and ns are numbers.
-- `set xs i y` is xs with y in the place i; `SwappedAt xs ys i j` says that ys is xs with the elements at i and j in each other's place; `cons_option o xs` is
-- xs with the value of o before it, if there is one.
use Rattle.std.specs.Prelude.{◌≡◌, ◌≢◌, ◌<◌, ◌≤◌, ◌+◌, ◌⊎◌, ℕ, zero, suc, Bool, true, nat_eq, Option, Some, None, List, [], ◌∷◌, ◌++◌, All, AllPairs, Contains, map, length, take, drop}
use Rattle.std.specs.List.{filter, filter_map, cons_option, SwappedAt}
use Rattle.std.specs.Option.{option_map}
use Rattle.std.proofs.Common.{inl, inr, refl, sym, ◌∙◌, ap, ap₂, nat_lt, subst, arith, get_or, set, append_assoc}
use Rattle.std.proofs.lemmas.Bool.{cases_lt, cond-true, cond-false, lt-ltb, le-ltb, ltb-true}
use Rattle.std.proofs.lemmas.Bool.Decides.{eqb_tells, nat_tests}
use Rattle.std.proofs.lemmas.List.{get_or_default, nil_from_length, drop-drop, length-set, get_or-map, length-map, take_more, take_all, drop_more, drop_all, append-nil, take_more_set, take-set-le, drop-set-lt, set-set, get_or-drop, map-append}
use Rattle.std.proofs.lemmas.List.Elements.{All-same, All-push, All-set, All-filter, filter_passes, All-nil, All-cons, All-head, All-tail, All-weaker, All-contains, All-get_or, Contains-append_right, Contains-get_or, filter_map-append}
use Rattle.std.proofs.lemmas.List.Kept.{AllPairs-cons}
use Rattle.std.proofs.lemmas.List.Concat.{flat_map-append}
use Rattle.std.specs.declared.cmp.Ordering.TheVariants.{Less}
use Rattle.sip_standard.proofs.Few.{AllPairs-head, AllPairs-tail}
use Rattle.sip_machine.specs.Texts.{Texts, IsBook, Keeps, text_of}
use Rattle.sip_machine.specs.Retained.{only}
use Rattle.sip_machine.specs.declared.book.Place.{Place}
use Rattle.sip_machine.specs.declared.book.PlaceRun.{PlaceRun}
use Rattle.sip_machine.specs.inner.Order.{bytes_at, key_of, compare, hash_of, places_of, IsPlace, IsOrder, IsLed}
use Rattle.sip_machine.specs.inner.Retain.{number_at, place_among, moved, merged}
use Rattle.sip_machine.proofs.texts.TextLaws.{Contains-nil, Contains-cons_cases, text_of-same, text_of-other, text_of-at, Keeps-at}

-- What follows is of lists that rise.

-- numbers that rise never fall from one place to a later one
pub never_falls : (numbers : List ℕ) → AllPairs (λ a b. a < b) numbers → (i j : ℕ) → i ≤ j → j < length numbers → get_or numbers i 0 ≤ get_or numbers j 0
never_falls numbers up i j le low =
    elim (cases_lt i j) [ inl lt ↦ (let less = up i j 0 lt low in omega arith) | inr from ↦ (let same : i ≡ j = omega arith in let at = ap (λ k. get_or numbers k 0) same in omega arith) ]

-- the number of the first message of a book is below those of the rest
pub below_rest : (t : ℕ × List ℕ) (ts : Texts) → AllPairs (λ a b. a.0 < b.0) (t ∷ ts) → (n : ℕ) → Keeps ts n → t.0 < n
below_rest t ts rising n keeps =
    let low : keeps.0 < length ts = rw length-map at keeps.1 in
    let at : get_or (map (λ k. k.0) ts) keeps.0 n ≡ (get_or ts keeps.0 t).0 = get_or-map (λ k. k.0) ts keeps.0 t n low in
    let here = AllPairs-head (λ a b. a.0 < b.0) t ts rising keeps.0 t low in
    omega (arith, here, at, keeps.2)

-- where x is in a list, f x is in the list that f maps it to
pub Contains-mapped : {X Y : Type 0} (f : X → Y) (xs : List X) (x : X) → Contains xs x → Contains (map f xs) (f x)
Contains-mapped f xs x (k, low, at) = (k, rw length-map low, get_or-map f xs k x (f x) low ∙ ap f at)

-- What follows is of which messages stay.

-- where no number is that of the first message, the messages of the numbers are the same without it
only_rest : (t : ℕ × List ℕ) (ts : Texts) (ns : List ℕ) → All (λ n. t.0 ≢ n) ns → only ns (t ∷ ts) ≡ only ns ts
only_rest t ts [] others = refl
only_rest t ts (n ∷ ns) others =
    let first : text_of (t ∷ ts) n ≡ text_of ts n = text_of-other t.0 t.1 ts n (All-head (λ n. t.0 ≢ n) n ns others) in
    let rest = only_rest t ts ns (All-tail (λ n. t.0 ≢ n) n ns others) in
    (λ i. (n, first i) ∷ rest i)

-- a number that a book keeps, and that is not that of its first message, is kept by the rest
keeps_rest : (t : ℕ × List ℕ) (ts : Texts) (n : ℕ) → t.0 ≢ n → Keeps (t ∷ ts) n → Keeps ts n
keeps_rest t ts n other keeps = elim (Contains-cons_cases t.0 (map (λ k. k.0) ts) n keeps) [ inl same ↦ absurd (other same) | inr rest ↦ rest ]

-- where numbers rise and are kept, going through numbers and messages together gives the messages with these numbers
pub merged_is : (numbers : List ℕ) (texts : Texts) → AllPairs (λ a b. a < b) numbers → AllPairs (λ a b. a.0 < b.0) texts → All (Keeps texts) numbers →
    merged numbers texts ≡ only numbers texts
merged_is [] [] up rising kept = refl
merged_is (n ∷ ns) [] up rising kept = absurd (Contains-nil n (All-head (Keeps []) n ns kept))
merged_is [] (t ∷ ts) up rising kept = refl
merged_is (n ∷ ns) (t ∷ ts) up rising kept =
    -- the first message has the first number, so it is kept, and the numbers go on
    elim (eqb_tells t.0 n) [
      | inl same ↦
          -- the other numbers are greater than n, so that they are those of later messages, of which all goes on
          let apart : All (λ m. t.0 ≢ m) ns = All-weaker (λ m. n < m) (λ m. t.0 ≢ m) (λ m low e. absurd (omega (arith, low, e, same.1))) ns (AllPairs-head (λ a b. a < b) n ns up) in
          let later : All (Keeps ts) ns = λ k d low. keeps_rest t ts (get_or ns k d) (apart k d low) (All-tail (Keeps (t ∷ ts)) n ns kept k d low) in
          let rest = merged_is ns ts (AllPairs-tail (λ a b. a < b) n ns up) (AllPairs-tail (λ a b. a.0 < b.0) t ts rising) later ∙ sym (only_rest t ts ns apart) in
          let first : t ≡ (n, text_of (t ∷ ts) n) = (λ i. (same.1 i, sym (text_of-same t.0 t.1 ts n same.1) i)) in
          -- the first message is that of n
          cond-true (nat_eq t.0 n) (t ∷ merged ns ts) (merged (n ∷ ns) ts) same.0 ∙ (λ i. first i ∷ rest i)
      -- the first message has another number, so it goes, and the numbers stay
      | inr other ↦
          -- the first number n stands later in the list, whose numbers rise, so that the first message's number is below each of the numbers and is none of
          -- them
          let here : Keeps ts n = keeps_rest t ts n other.1 (All-head (Keeps (t ∷ ts)) n ns kept) in
          let under : t.0 < n = below_rest t ts rising n here in
          let apart : All (λ m. t.0 ≢ m) (n ∷ ns) =
          All-cons (λ m. t.0 ≢ m) n ns other.1 (All-weaker (λ m. n < m) (λ m. t.0 ≢ m) (λ m low e. absurd (omega (arith, low, e, under))) ns (AllPairs-head (λ a b. a < b) n ns up)) in
          -- all numbers are kept among the other messages, and so what stays is the same with the first message as without it
          let later : All (Keeps ts) (n ∷ ns) = λ k d low. keeps_rest t ts (get_or (n ∷ ns) k d) (apart k d low) (kept k d low) in
          cond-false (nat_eq t.0 n) (t ∷ merged ns ts) (merged (n ∷ ns) ts) other.0
          ∙ merged_is (n ∷ ns) ts up (AllPairs-tail (λ a b. a.0 < b.0) t ts rising) later ∙ sym (only_rest t ts (n ∷ ns) apart)
    ]

-- What follows is of where a number stands among numbers.

-- the number at place i of numbers that rise is found at place i
pub place_at : (numbers : List ℕ) (i d : ℕ) → AllPairs (λ a b. a < b) numbers → i < length numbers → place_among numbers (get_or numbers i d) ≡ Some i
place_at [] i d up low = absurd (omega arith)
-- the first number is found at 0; any other place is after it, since the numbers rise
place_at (m ∷ ms) zero d up low = cond-true (nat_eq m m) (Some 0) (option_map suc (place_among ms m)) (grind (arith, nat_tests))
place_at (m ∷ ms) (suc i) d up low =
    let within : i < length ms = omega arith in
    -- n is the number that is looked for, which is above the first one, m
    let n = get_or ms i d in
    let under : m < n = AllPairs-head (λ a b. a < b) m ms up i d within in
    cond-false (nat_eq m n) (Some 0) (option_map suc (place_among ms n)) (grind (arith, nat_tests))
    ∙ ap (option_map suc) (place_at ms i d (AllPairs-tail (λ a b. a < b) m ms up) within)

-- a number that is none of some numbers is found at no place
pub place_none : (numbers : List ℕ) (n : ℕ) → All (λ m. m ≢ n) numbers → place_among numbers n ≡ None
place_none [] n none = refl
place_none (m ∷ ms) n none =
    elim (eqb_tells m n) [
      | inl same ↦ absurd (All-head (λ m. m ≢ n) m ms none same.1)
      | inr other ↦ cond-false (nat_eq m n) (Some 0) (option_map suc (place_among ms n)) other.0 ∙ ap (option_map suc) (place_none ms n (All-tail (λ m. m ≢ n) m ms none))
    ]

-- where a number is found among the numbers after the first, it stands at the place after
-- m is the first number and ms are the others; n is the number that is looked for, o its place among the others, and i its place among all; d stands for no
-- number
found_later : (m : ℕ) (ms : List ℕ) (n i d : ℕ) (o : Option ℕ) → ((j : ℕ) → place_among ms n ≡ Some j → (j < length ms) × (get_or ms j d ≡ n))
    → place_among ms n ≡ o → option_map suc (place_among ms n) ≡ Some i → (i < suc (length ms)) × (get_or (m ∷ ms) i d ≡ n)
found_later m ms n i d None found is next = absurd (let none : None ≡ Some i = sym (ap (option_map suc) is) ∙ next in cc)
found_later m ms n i d (Some j) found is next =
    -- the place among all is one more than the place among the others
    let there = found j is in
    let both : Some (suc j) ≡ Some i = sym (ap (option_map suc) is) ∙ next in
    let up : suc j ≡ i = cc in
    subst (λ k. (k < suc (length ms)) × (get_or (m ∷ ms) k d ≡ n)) up (omega (arith, there.0), there.1)

-- the number stands at the place where it is found
-- i is the place of the number n; d stands for no number
pub place_found : (numbers : List ℕ) (n i d : ℕ) → place_among numbers n ≡ Some i → (i < length numbers) × (get_or numbers i d ≡ n)
place_found [] n i d at = absurd cc
place_found (m ∷ ms) n i d at =
    elim (eqb_tells m n) [
      | inl same ↦
          -- the first number is n, so its place is 0
          let first : Some 0 ≡ Some i = sym (cond-true (nat_eq m n) (Some 0) (option_map suc (place_among ms n)) same.0) ∙ at in
          let zero_is : 0 ≡ i = cc in
          subst (λ k. (k < suc (length ms)) × (get_or (m ∷ ms) k d ≡ n)) zero_is (omega arith, same.1)
      -- the first number is another one, so n stands among the others
      | inr other ↦ found_later m ms n i d (place_among ms n) (λ j is. place_found ms n j d is) refl (sym (cond-false (nat_eq m n) (Some 0) (option_map suc (place_among ms n)) other.0) ∙ at)
    ]

-- What follows is of what f gives of the elements of a list, where it gives something.

module _ {X Y : Type 0} (f : X → Option Y) where
  -- one step of the next lemma: where P holds of x, Q holds of what f gives of x, if anything, and of all that f gives of the rest
  -- o is what f gives of the first element x: nothing, so that nothing is added, or y
  all_step : (P : X → Type 0) (Q : Y → Type 0) → ((x : X) (y : Y) → f x ≡ Some y → P x → Q y) → (x : X) (xs : List X) → P x → All Q (filter_map f xs)
      → (o : Option Y) → f x ≡ o → All Q (cons_option o (filter_map f xs))
  all_step P Q so x xs p rest None is = rest
  all_step P Q so x xs p rest (Some y) is = All-cons Q y (filter_map f xs) (so x y is p) rest

  -- where Q holds of what f gives of each element of which P holds, and P holds of a whole list, Q holds of all that f gives of the list
  pub All-filter_map : (P : X → Type 0) (Q : Y → Type 0) → ((x : X) (y : Y) → f x ≡ Some y → P x → Q y) → (xs : List X) → All P xs → All Q (filter_map f xs)
  All-filter_map P Q so [] all = All-nil Q
  All-filter_map P Q so (x ∷ xs) all = all_step P Q so x xs (All-head P x xs all) (All-filter_map P Q so xs (All-tail P x xs all)) (f x) refl

  -- one step of the next lemma, at the first element x of the list
  -- f maps x to y and u to v; P holds of elements, R of two of them and S of what f maps these to; o is what f gives of x, perhaps nothing
  pairs_step : (P : X → Type 0) (R : X → X → Type 0) (S : Y → Y → Type 0) → ((x u : X) (y v : Y) → f x ≡ Some y → f u ≡ Some v → P x → P u → R x u → S y v)
      → (x : X) (xs : List X) → P x → All (λ u. P u × R x u) xs → AllPairs S (filter_map f xs) → (o : Option Y) → f x ≡ o → AllPairs S (cons_option o (filter_map f xs))
  pairs_step P R S so x xs p both rest None is = rest
  pairs_step P R S so x xs p both rest (Some y) is =
      AllPairs-cons S y (filter_map f xs) (All-filter_map (λ u. P u × R x u) (S y) (λ u v gives h. so x u y v is gives p h.0 h.1) xs both) rest

  -- where S relates what f gives of two elements that R relates, and R relates each pair of a list, S relates each pair of what f gives of it
  pub AllPairs-filter_map : (P : X → Type 0) (R : X → X → Type 0) (S : Y → Y → Type 0)
      → ((x u : X) (y v : Y) → f x ≡ Some y → f u ≡ Some v → P x → P u → R x u → S y v) → (xs : List X) → All P xs → AllPairs R xs → AllPairs S (filter_map f xs)
  AllPairs-filter_map P R S so [] all pairs = λ i j d lt low. absurd (omega arith)
  AllPairs-filter_map P R S so (x ∷ xs) all pairs =
      pairs_step P R S so x xs (All-head P x xs all) (λ k d low. (All-tail P x xs all k d low, AllPairs-head R x xs pairs k d low))
      (AllPairs-filter_map P R S so xs (All-tail P x xs all) (AllPairs-tail R x xs pairs)) (f x) refl

  -- where f gives y of x, and x is in a list, y is in what f gives of the list
  -- u is the first element of the list, xs are the others, and o is what f gives of u
  contains_step : (u x : X) (xs : List X) (y : Y) → f x ≡ Some y → (Contains xs x → Contains (filter_map f xs) y) → (o : Option Y) → f u ≡ o → (u ≡ x) ⊎ Contains xs x
      → Contains (cons_option o (filter_map f xs)) y
  -- f gives nothing of u: so u is not x
  contains_step u x xs y gives rest None is (inl same) = absurd (let never : None ≡ Some y = sym is ∙ ap f same ∙ gives in cc)
  -- x is one of the others, and so y is in what f gives of them
  contains_step u x xs y gives rest None is (inr has) = rest has
  -- f gives v of u: where u is x, v is y, which comes first
  contains_step u x xs y gives rest (Some v) is (inl same) =
      let both : Some v ≡ Some y = sym is ∙ ap f same ∙ gives in
      let one : v ≡ y = cc in
      subst (Contains (v ∷ filter_map f xs)) one (Contains-get_or (v ∷ filter_map f xs) 0 v (omega arith))
  -- x is one of the others: y comes after v
  contains_step u x xs y gives rest (Some v) is (inr has) = Contains-append_right (v ∷ []) (filter_map f xs) y (rest has)

  -- what the function makes of an element of a list is in what it makes of the list
  pub Contains-filter_map : (xs : List X) (x : X) (y : Y) → f x ≡ Some y → Contains xs x → Contains (filter_map f xs) y
  Contains-filter_map [] x y gives has = absurd (Contains-nil x has)
  Contains-filter_map (u ∷ xs) x y gives has = contains_step u x xs y gives (λ there. Contains-filter_map xs x y gives there) (f u) refl (Contains-cons_cases u xs x has)

-- What follows is of a loop that reads at i, and writes what it keeps after what it has kept.

-- the first `left` elements of `now` are what f gives of the first i of `old`, and from i on nothing was changed; no more elements stay than were read
-- (`behind`), no more were read than there were (`within`), and the list is as long as it was (`long`)
pub record MovesInPlace {X : Type 0} (f : X → Option X) (old now : List X) (left i : ℕ) : Type 0 where
  pub front : take left now ≡ filter_map f (take i old)
  pub rest : drop i now ≡ drop i old
  pub behind : left ≤ i
  pub within : i ≤ length old
  pub long : length now ≡ length old

-- the element at i is as it was
still : {X : Type 0} (old now : List X) (i : ℕ) (d : X) → drop i now ≡ drop i old → get_or now i d ≡ get_or old i d
still old now i d rest =
    let zero_more : i + 0 ≡ i = omega arith in
    ap (λ k. get_or now k d) (sym zero_more) ∙ sym (get_or-drop i now 0 d) ∙ ap (λ xs. get_or xs 0 d) rest ∙ get_or-drop i old 0 d ∙ ap (λ k. get_or old k d) zero_more

-- where two lists are alike from a place on, they are alike from the next one on
still_rest : {X : Type 0} (old now : List X) (i : ℕ) → drop i now ≡ drop i old → drop (i + 1) now ≡ drop (i + 1) old
still_rest old now i rest = sym (drop-drop 1 i now) ∙ ap (drop 1) rest ∙ drop-drop 1 i old

-- What follows is of one step of `retain`: `old` was the list, `now` is it, and the first `left` elements stay. The element x at i is read: f says what
-- becomes of it.
module _ {X : Type 0} (f : X → Option X) (old now : List X) (left i : ℕ) (moves : MovesInPlace f old now left i) (x : X) (low : i < length now) (read : x ≡ get_or now i x) where
  -- the element at i is still the one that stood there in the old list
  here : get_or old i x ≡ x
  here = sym (still old now i x moves.rest) ∙ sym read

  -- the place i is one of the old list
  inside : i < length old
  inside = (let long = moves.long in omega arith)

  -- what becomes of the elements up to i is what becomes of those before it and of the one at i
  one_more : filter_map f (take (i + 1) old) ≡ filter_map f (take i old) ++ cons_option (f x) []
  one_more = ap (filter_map f) (take_more old i x inside) ∙ filter_map-append f (take i old) (get_or old i x ∷ []) ∙ ap (λ y. filter_map f (take i old) ++ cons_option (f y) []) here

  -- where f gives y of the element at i, and y is written after what was kept, one element more was read
  pub moves_some : (y : X) → f x ≡ Some y → MovesInPlace f old (set now left y) (left + 1) (i + 1)
  moves_some y gives = grind (arith, nat_tests, take_more_set, one_more, drop-set-lt, still_rest, length-set)

  -- where f gives nothing of the element at i, one element more was read
  pub moves_none : f x ≡ None → MovesInPlace f old now left (i + 1)
  moves_none gives = grind (arith, nat_tests, one_more, append-nil, still_rest)

-- What follows is of a loop that keeps the messages with numbers that rise.

-- for no numbers no messages are kept
merged_none : (texts : Texts) → merged [] texts ≡ []
merged_none [] = refl
merged_none (t ∷ ts) = refl

-- the first `left` messages of `now`, and those of the rest with the numbers after, are all with these numbers; from i on nothing was changed; no more
-- messages stay than were read (`behind`), no more were read than there were (`within`), and the list is as long as it was (`long`)
pub record KeepsInPlace {K : Type 0} (text : K → ℕ × List ℕ) (numbers : List ℕ) (old now : List K) (left i : ℕ) : Type 0 where
  pub front : map text (take left now) ++ merged (drop left numbers) (map text (drop i old)) ≡ merged numbers (map text old)
  pub rest : drop i now ≡ drop i old
  pub behind : left ≤ i
  pub within : i ≤ length old
  pub long : length now ≡ length old

-- where no number is left, a message more is read, and goes
pub keeps_end : {K : Type 0} (text : K → ℕ × List ℕ) (numbers : List ℕ) (old now : List K) (left i : ℕ) → KeepsInPlace text numbers old now left i → i < length now → length numbers ≤ left
    → KeepsInPlace text numbers old now left (i + 1)
keeps_end text numbers old now left i keeps low end = grind (arith, nat_tests, drop_all, merged_none, still_rest)

-- What follows is of one step of `keep_only`: `old` was the list, `now` is it, and `left` messages at its front stay. The message x at i is read, and goes
-- or is kept.
module _ {K : Type 0} (text : K → ℕ × List ℕ) (numbers : List ℕ) (old now : List K) (left i : ℕ) (keeps : KeepsInPlace text numbers old now left i) (x : K) (low : i < length now) (read : x ≡ get_or now i x) where
  -- the message at i is still the one that stood there in the old list
  there : get_or old i x ≡ x
  there = sym (still old now i x keeps.rest) ∙ sym read

  -- the place i is one of the old list
  behind_it : i < length old
  behind_it = (let long = keeps.long in omega arith)

  -- the old messages from i on are the one at i and those after it
  rest_is : map text (drop i old) ≡ text x ∷ map text (drop (i + 1) old)
  rest_is = ap (map text) (drop_more old i x behind_it) ∙ ap (λ y. text y ∷ map text (drop (i + 1) old)) there

  -- where the message at i is not the next that is kept, a message more is read, and goes
  pub keeps_other : merged (drop left numbers) (text x ∷ map text (drop (i + 1) old)) ≡ merged (drop left numbers) (map text (drop (i + 1) old)) → KeepsInPlace text numbers old now left (i + 1)
  keeps_other skips = grind (arith, nat_tests, rest_is, still_rest, behind_it)

  -- where the next number is not that of the message at i, a message more is read, and goes
  pub keeps_less : left < length numbers → (text x).0 ≢ get_or numbers left 0 → KeepsInPlace text numbers old now left (i + 1)
  keeps_less some differs = grind (arith, nat_tests, drop_more, keeps_other, cond-false)

  -- where the messages at `left` and at i changed places, the first `left + 1` are those that were kept and the one at i
  swapped_front : (new : List K) → SwappedAt now new left i → take (left + 1) new ≡ take left now ++ x ∷ []
  swapped_front new swapped = grind (arith, nat_tests, cases_lt, take-set-le, take_more_set, set-set)

  -- where the messages at `left` and at i changed places, those after i are as they were
  swapped_rest : (new : List K) → SwappedAt now new left i → drop (i + 1) new ≡ drop (i + 1) now
  swapped_rest new swapped = grind (arith, drop-set-lt)

  -- where the next number is that of the message at i, and it is swapped after those that were kept, one message more was read and kept
  pub keeps_more : left < length numbers → (text x).0 ≡ get_or numbers left 0 → (new : List K) → SwappedAt now new left i
      → KeepsInPlace text numbers old new (left + 1) (i + 1)
  keeps_more some same new swapped = grind (arith, nat_tests, drop_more, rest_is, cond-true, swapped_front, map-append, append_assoc, swapped_rest, still_rest, behind_it, length-set)

-- What follows is of the runs, one after another.

-- the places of a run
abbrev items : PlaceRun → List Place
items run = run.places.items

-- the places of the first i runs are what f gives of theirs, and the other runs were not changed yet; `short` says that no run has more than `most`
-- places, `within` that there were i runs or more, and `long` that there are as many runs as before
pub record MovesRuns (f : Place → Option Place) (most : ℕ) (old now : List PlaceRun) (i : ℕ) : Type 0 where
  pub places : places_of (take i now) ≡ filter_map f (places_of (take i old))
  pub rest : drop i now ≡ drop i old
  pub led : All (λ run. 0 < length run.places.items → IsLed run) (take i now)
  pub short : All (λ run. length run.places.items ≤ most) now
  pub within : i ≤ length old
  pub long : length now ≡ length old

-- the places of the first i + 1 runs are those of the first i and those of run i
places_more : (runs : List PlaceRun) (i : ℕ) (d : PlaceRun) → i < length runs → places_of (take (i + 1) runs) ≡ places_of (take i runs) ++ items (get_or runs i d)
places_more runs i d low =
    ap places_of (take_more runs i d low) ∙ flat_map-append items (take i runs) (get_or runs i d ∷ []) ∙ ap (λ ps. places_of (take i runs) ++ ps) (append-nil (items (get_or runs i d)))

-- where run i holds what f gives of its places, one run more is done
pub moves_run : (f : Place → Option Place) (most : ℕ) (old now : List PlaceRun) (i : ℕ) (d run : PlaceRun) → MovesRuns f most old now i → i < length now → d ≡ get_or now i d
    → items run ≡ filter_map f (items d) → length (items run) ≤ length (items d) → (0 < length (items run) → IsLed run) → MovesRuns f most old (set now i run) (i + 1)
moves_run f most old now i d run moves low read is fewer led =
    let inside : i < length old = (let long = moves.long in omega arith) in
    let was : d ≡ get_or old i d = read ∙ still old now i d moves.rest in
    -- the places of the runs so far are the moved ones
    record {
      places = ap places_of (take_more_set now i run low) ∙ flat_map-append items (take i now) (run ∷ []) ∙ ap (λ ps. places_of (take i now) ++ ps) (append-nil (items run) ∙ is)
          ∙ ap (λ ps. ps ++ filter_map f (items d)) moves.places ∙ sym (filter_map-append f (places_of (take i old)) (items d))
          ∙ ap (filter_map f) (ap (λ r. places_of (take i old) ++ items r) was ∙ sym (places_more old i d inside));
      -- the runs after it are as they were, and those so far tell their first place; no run has more than `most` places (`short`), the runs that are done
      -- are no more than there were (`within`), and there are as many runs as before (`long`)
      rest = drop-set-lt (i + 1) now i run (omega arith) ∙ still_rest old now i moves.rest;
      led = All-same (λ run. 0 < length run.places.items → IsLed run) (take (i + 1) (set now i run)) (take i now ++ run ∷ []) (take_more_set now i run low)
          (All-push (λ run. 0 < length run.places.items → IsLed run) (take i now) run moves.led led);
      short = All-set (λ run. length run.places.items ≤ most) now i run
          (let low_d = All-get_or (λ run. length run.places.items ≤ most) now i d low moves.short in let same = ap (λ r. length (items r)) read in omega arith) moves.short;
      within = omega arith;
      long = length-set now i run ∙ moves.long;
    }

-- whether the run has a place
abbrev pub has_places : PlaceRun → Bool
has_places run = nat_lt 0 (length run.places.items)

-- without the runs that have no place, the places of the runs are the same
places_filled : (runs : List PlaceRun) → places_of (filter has_places runs) ≡ places_of runs
places_filled [] = refl
places_filled (run ∷ runs) =
    elim (cases_lt 0 (length run.places.items)) [
      -- the run has a place and stays, or it has none, and adds nothing to the places
      | inl some ↦ ap places_of (cond-true (has_places run) (run ∷ filter has_places runs) (filter has_places runs) (lt-ltb 0 (length run.places.items) some)) ∙ ap (λ ps. items run ++ ps) (places_filled runs)
      | inr none ↦
          let empty : items run ≡ [] = nil_from_length (items run) (omega arith) in
          ap places_of (cond-false (has_places run) (run ∷ filter has_places runs) (filter has_places runs) (le-ltb 0 (length run.places.items) none)) ∙ places_filled runs ∙ ap (λ ps. ps ++ places_of runs) (sym empty)
    ]

-- where all runs are done, and those without a place are left out, the places are what f gives of all
pub moves_runs : (f : Place → Option Place) (most : ℕ) (old now new : List PlaceRun) (i : ℕ) → MovesRuns f most old now i → length old ≤ i → new ≡ filter has_places now
    → (places_of new ≡ filter_map f (places_of old)) × All IsLed new × All (λ run. length run.places.items ≤ most) new
moves_runs f most old now new i moves end is =
    let all_now : take i now ≡ now = take_all i now (let long = moves.long in omega arith) in
    let led : All (λ run. 0 < length run.places.items → IsLed run) now = subst (All (λ run. 0 < length run.places.items → IsLed run)) all_now moves.led in
    -- the runs that are left have a place each, and tell the first one
    let filled : All (λ run. has_places run ≡ true) (filter has_places now) = filter_passes has_places now in
    let ready = All-filter has_places (λ run. 0 < length run.places.items → IsLed run) now led in (
      ap places_of is ∙ places_filled now ∙ ap places_of (sym all_now) ∙ moves.places ∙ ap (λ runs. filter_map f (places_of runs)) (take_all i old end),
      All-same IsLed new (filter has_places now) is (λ k d low. ready k d low (ltb-true 0 (length (items (get_or (filter has_places now) k d))) (filled k d low))),
      All-same (λ run. length run.places.items ≤ most) new (filter has_places now) is (All-filter has_places (λ run. length run.places.items ≤ most) now moves.short),
    )

-- What follows is of the order of a book that keeps some of its messages.

-- the messages with some numbers are as many as the numbers
pub length-only : (numbers : List ℕ) (texts : Texts) → length (only numbers texts) ≡ length numbers
length-only numbers texts = length-map numbers (λ n. (n, text_of texts n))

-- an element of the list that f maps another to is f of the element there at the same place
-- y is the element that is mapped to, and k its place; d stands for no element
pub mapped_place : {X Y : Type 0} (f : X → Y) (xs : List X) (d : X) (y : Y) → Contains (map f xs) y → (k : ℕ) × (k < length xs) × (f (get_or xs k d) ≡ y)
mapped_place f xs d y (k, low, is) =
    let within : k < length xs = rw length-map at low in
    (k, within, sym (get_or-map f xs k d y within) ∙ is)

-- a number that a book keeps is that of the message at some place
pub kept_place : (texts : Texts) (n : ℕ) → Keeps texts n → (k : ℕ) × (k < length texts) × (number_at texts k ≡ n)
kept_place texts n (k, low, is) =
    let within : k < length texts = rw length-map at low in
    let first : ℕ × List ℕ → ℕ = λ t. t.0 in
    (k, within, sym (get_or-map first texts k (0, []) n within) ∙ is)

-- What follows is of the book `texts`, of which the messages with these numbers alone are kept.
module _ (texts : Texts) (numbers : List ℕ) (book : IsBook texts) (up : AllPairs (λ a b. a < b) numbers) (kept : All (Keeps texts) numbers) where
  -- the message at place i of those that are kept has the number at place i of the numbers, and its bytes
  at_number : (i d : ℕ) → i < length numbers → get_or (only numbers texts) i (0, []) ≡ (get_or numbers i d, text_of texts (get_or numbers i d))
  at_number i d low = get_or-map (λ n. (n, text_of texts n)) numbers i d (0, []) low

  -- a place that is moved keeps its hash, and its position is that of the number of its message among those that stay
  moved_is : (p q : Place) → moved texts numbers p ≡ Some q → (q.hash ≡ p.hash) × (q.position < length numbers) × (get_or numbers q.position 0 ≡ number_at texts p.position)
  moved_is p q gives = go (place_among numbers (number_at texts p.position)) refl gives
    where
      -- where the place is moved to q, q keeps its hash and has the position of the number of its message
      go : (o : Option ℕ) → place_among numbers (number_at texts p.position) ≡ o → option_map (λ i. record { hash = p.hash; position = i }) (place_among numbers (number_at texts p.position)) ≡ Some q
          → (q.hash ≡ p.hash) × (q.position < length numbers) × (get_or numbers q.position 0 ≡ number_at texts p.position)
      go None is out = absurd (let never : None ≡ Some q = sym (ap (option_map (λ i. record { hash = p.hash; position = i })) is) ∙ out in cc)
      -- the place is among the numbers at i, so it is moved there
      go (Some i) is out =
          let put : Place = record { hash = p.hash; position = i } in
          let both : Some put ≡ Some q = sym (ap (option_map (λ i. record { hash = p.hash; position = i })) is) ∙ out in
          let same : put ≡ q = cc in
          let found = place_found numbers (number_at texts p.position) i 0 is in
          subst (λ r. (r.hash ≡ p.hash) × (r.position < length numbers) × (get_or numbers r.position 0 ≡ number_at texts p.position)) same (refl, found.0, found.1)

  -- a place that is moved is that of the same bytes as before: at its new position stands the number of its message, under which the book has the bytes
  moved_bytes : (p q : Place) → moved texts numbers p ≡ Some q → p.position < length texts → bytes_at (only numbers texts) q.position ≡ bytes_at texts p.position
  moved_bytes p q gives low =
      let (hash, within, number) = moved_is p q gives in
      ap (λ t. t.1) (at_number q.position 0 within) ∙ ap (text_of texts) number ∙ text_of-at texts p.position (get_or texts p.position (0, [])) book.rising low (get_or_default texts p.position (0, []) (get_or texts p.position (0, [])) low)

  -- a place that was moved has the hash and the bytes that it had
  moved_key : (p q : Place) → moved texts numbers p ≡ Some q → IsPlace texts p → key_of (only numbers texts) q ≡ key_of texts p
  moved_key p q gives is = (λ i. ((moved_is p q gives).0 i, moved_bytes p q gives is.0 i))

  -- a place of a message that is moved is one of the message among those that stay
  moved_place : (p q : Place) → moved texts numbers p ≡ Some q → IsPlace texts p → IsPlace (only numbers texts) q
  moved_place p q gives is = (
    (let within = (moved_is p q gives).1 in let long = length-only numbers texts in omega arith),
    (moved_is p q gives).0 ∙ is.1 ∙ ap hash_of (sym (moved_bytes p q gives is.0)),
  )

  -- each message that stays has a place among those that are moved
  moved_whole : (places : List Place) → IsOrder texts places → (i : ℕ) → i < length (only numbers texts) → Contains (map (λ p. p.position) (filter_map (moved texts numbers) places)) i
  moved_whole places order i low =
      let within : i < length numbers = (let long = length-only numbers texts in omega arith) in
      let n = get_or numbers i 0 in
      let keeps : Keeps texts n = kept i 0 within in
      -- the message that stays at i has a place j in the old order
      let (k, k_low, k_is) = kept_place texts n keeps in
      let none : Place = record { hash = 0; position = 0 } in
      let (j, j_low, p_is) = mapped_place (λ p. p.position) places none k (order.whole k k_low) in
      let p = get_or places j none in
      -- this place is moved to the position i
      let q : Place = record { hash = p.hash; position = i } in
      let gives : moved texts numbers p ≡ Some q = ap (λ m. option_map (λ i. record { hash = p.hash; position = i }) (place_among numbers m)) (ap (number_at texts) p_is ∙ k_is)
      ∙ ap (option_map (λ i. record { hash = p.hash; position = i })) (place_at numbers i 0 up within) in
      Contains-mapped (λ p. p.position) (filter_map (moved texts numbers) places) q (Contains-filter_map (moved texts numbers) places p q gives (Contains-get_or places j none j_low))

  -- the places that are moved are the order of the messages that stay
  pub IsOrder-only : (places : List Place) → IsOrder texts places → IsOrder (only numbers texts) (filter_map (moved texts numbers) places)
  IsOrder-only places order = record {
    -- the keys of the places that are moved are as before, so they rise as before
    rising = AllPairs-filter_map (moved texts numbers) (IsPlace texts) (λ a b. compare (key_of texts a) (key_of texts b) ≡ Less)
        (λ a b. compare (key_of (only numbers texts) a) (key_of (only numbers texts) b) ≡ Less)
        (λ x u y v gx gu px pu less. ap₂ compare (moved_key x y gx px) (moved_key u v gu pu) ∙ less) places order.hashed order.rising;
    -- each place that is moved is that of a message, with its hash, and each message has one
    hashed = All-filter_map (moved texts numbers) (IsPlace texts) (IsPlace (only numbers texts)) moved_place places order.hashed;
    whole = moved_whole places order;
  }

  -- a number that is kept among the messages that stay is one of the numbers
  pub Keeps-only : (n : ℕ) → Keeps (only numbers texts) n → Contains numbers n
  Keeps-only n keeps =
      let (k, low, is) = kept_place (only numbers texts) n keeps in
      let within : k < length numbers = (let size = length-only numbers texts in omega arith) in
      let first : ℕ × List ℕ → ℕ = λ t. t.0 in
      (k, within, sym (ap first (at_number k n within)) ∙ is)

  -- each of the numbers is kept among the messages that stay
  pub only-Keeps : (n : ℕ) → Contains numbers n → Keeps (only numbers texts) n
  only-Keeps n (k, low, is) =
      let within : k < length (only numbers texts) = (let size = length-only numbers texts in omega arith) in
      let first : ℕ × List ℕ → ℕ = λ t. t.0 in
      subst (Keeps (only numbers texts)) is (Keeps-at (only numbers texts) k (get_or numbers k n, text_of texts (get_or numbers k n)) within (sym (at_number k n low) ∙ get_or_default (only numbers texts) k (0, []) (get_or numbers k n, text_of texts (get_or numbers k n)) within))

  -- the numbers of the messages that stay rise
  rising-only : AllPairs (λ a b. a.0 < b.0) (only numbers texts)
  rising-only i j d lt low =
      let within : j < length numbers = (let size = length-only numbers texts in omega arith) in
      let first : ℕ × List ℕ → ℕ = λ t. t.0 in
      let at_i : (get_or (only numbers texts) i d).0 ≡ get_or numbers i 0 = ap first (get_or_default (only numbers texts) i d (0, []) (omega arith) ∙ at_number i 0 (omega arith)) in
      let at_j : (get_or (only numbers texts) j d).0 ≡ get_or numbers j 0 = ap first (get_or_default (only numbers texts) j d (0, []) low ∙ at_number j 0 within) in
      (let less = up i j 0 lt within in omega arith)

  -- the messages that stay have the bytes that they had
  pub text_of-only : (n : ℕ) → Contains numbers n → text_of (only numbers texts) n ≡ text_of texts n
  text_of-only n (k, low, is) =
      let within : k < length (only numbers texts) = (let size = length-only numbers texts in omega arith) in
      -- x is the message at the place k of those that stay, with the number n
      let x : ℕ × List ℕ = (get_or numbers k n, text_of texts (get_or numbers k n)) in
      let at = text_of-at (only numbers texts) k x rising-only within (sym (at_number k n low) ∙ get_or_default (only numbers texts) k (0, []) x within) in
      ap (text_of (only numbers texts)) (sym is) ∙ at ∙ ap (text_of texts) is

  -- the messages of a book that stay are a book
  pub IsBook-only : IsBook (only numbers texts)
  IsBook-only = record {
    rising = rising-only;
    apart = λ a b keeps_a keeps_b same.
        -- two messages that stay with the same bytes had the same bytes before, and so they have one number
        let in_a = Keeps-only a keeps_a in
        let in_b = Keeps-only b keeps_b in
        book.apart a b (All-contains (Keeps texts) numbers a kept in_a) (All-contains (Keeps texts) numbers b kept in_b) (sym (text_of-only a in_a) ∙ same ∙ text_of-only b in_b);
  }
