-- Sets that wait, one after another, and what the marked sets name.
-- In the lemmas i and n are indices of sets or places of a list, d is what stands beyond its end, and r the result of a call, whose errors are of the type E.
use Rattle.std.proofs.Common.{cond, zero, suc, Bool, true, false, true≢false, Result, Ok, Err, OnOk, OnErr, AllPairs, Contains, ◌↔◌, ◌++◌, [], ◌∷◌, ◌≡◌, ◌≢◌, ◌≤◌, ◌<◌, ◌⊎◌, inl, inr, ℕ, Option, Some, None, List, ◌+◌, map, take, option_copied, All, length, get_or, slice_get, slice_set, refl, sym, ap, ◌∙◌, subst, arith}
use Rattle.std.specs.List.{flat_map}
use Rattle.std.specs.Result.{is_ok}
use Rattle.std.specs.Slice.{IsItemAt}
use Rattle.std.specs.Borrow.{Bor}
use Rattle.std.proofs.lemmas.Bool.{ltb-true}
use Rattle.std.proofs.lemmas.Option.{same_Some, slice_get_within, slice_get-get_or}
use Rattle.std.proofs.lemmas.List.{length-set, length-map, get_or-map, length-take-le, get_or-take, get_or_default}
use Rattle.std.proofs.lemmas.List.Elements.{Contains-push, Contains-push_cases, Contains-append_left, Contains-append_right, Contains-get_or}
use Rattle.sip_standard.specs.Key.{KeyParts}
use Rattle.sip_standard.specs.Times.{Times}
use Rattle.sip_machine.proofs.texts.TextLaws.{Contains-nil, Contains-cons_cases}
use Rattle.sip_standard.specs.KeyMachine.{machine_of_key}
use Rattle.sip_states.specs.AnySet.{SetWaits, moment_of, start_of, IsQuietSet}
use Rattle.sip_states.specs.Tables.{Tabled, IsGiven}
use Rattle.sip_states.specs.Restarting.{AreToRestart}
use Rattle.sip_states.proofs.lists.Listed.{Contains-map}
use Rattle.sip_states.proofs.lists.Places.{set_place, set_other, set_here, set_still, push_place}
use Rattle.sip_states.specs.Sweep.{numbers_of, IsAdvanced, AppendsNamed}
use Rattle.sip_states.specs.inner.Marks.{IsMarked, ElseHolds, AreMarked}
use Rattle.sip_states.specs.inner.Advance.{AdvancesAt}
use Rattle.sip_states.specs.declared.any_set.AnySet.{AnySet}
use Rattle.sip_states.proofs.keyed.NamesLemmas.{Contains-flat_map, Contains-from_flat_map}
use Rattle.sip_states.proofs.keyed.ByMachine.{start_silent, start_is_quiet}

-- What follows is of sets that wait.

-- where the sets at some indices have waited, and then the set at another index waits, the sets at these and at that one have
pub advances_more : (moment : ℕ) (indices : List ℕ) (old now : List AnySet) (index : ℕ) (set after : AnySet) → AdvancesAt moment indices old now → ¬ Contains indices index
    → slice_get now index ≡ Some set → SetWaits moment set after → AdvancesAt moment (indices ++ index ∷ []) old (slice_set now index after)
advances_more moment indices old now index set after up fresh at waits = record {
  long = length-set now index after ∙ up.long;
  -- the set at the new index has waited now, and it had not before
  each = λ n a b was is. elim (set_place now index n after b is) [
    | inl here ↦ elim (up.each n a set was (ap (slice_get now) here.0 ∙ at)) [
      | inl early ↦ absurd (fresh (subst (Contains indices) here.0 early.0))
      | inr same ↦ inl (
        subst (Contains (indices ++ index ∷ [])) (sym here.0) (Contains-push indices index),
        subst (λ x. SetWaits moment a x) here.1 (subst (λ x. SetWaits moment x after) same.1 waits),
      )
    ]
    -- any other set has waited before, or is as it was
    | inr other ↦ elim (up.each n a b was other.1) [
      | inl early ↦ inl (Contains-append_left indices (index ∷ []) n early.0, early.1)
      | inr same ↦ inr (λ has. elim (Contains-push_cases indices index n has) [ inl before ↦ same.0 before | inr e ↦ other.0 (sym e) ], same.1)
    ]
  ];
}

-- where a set could not wait and is as before, the sets at the same indices have waited as before
pub advances_failed : (moment : ℕ) (indices : List ℕ) (old now : List AnySet) (index : ℕ) (set after : AnySet) → AdvancesAt moment indices old now
    → slice_get now index ≡ Some set → after ≡ set → AdvancesAt moment indices old (slice_set now index after)
advances_failed moment indices old now index set after up at same =
    subst (λ xs. AdvancesAt moment indices old xs) (sym (ap (slice_set now index) same ∙ set_still now index set at)) up

-- a set that has not waited yet is not past the moment, where no set was past it before
pub still_early : (moment : ℕ) (indices : List ℕ) (old now : List AnySet) (index : ℕ) (set : AnySet) → AdvancesAt moment indices old now → ¬ Contains indices index
    → All (λ s. moment_of s ≤ moment) old → slice_get now index ≡ Some set → moment_of set ≤ moment
still_early moment indices old now index set up fresh early at =
    let low = slice_get_within now index set at in
    let long = up.long in
    let was : slice_get old index ≡ Some (get_or old index set) = slice_get-get_or old index set (omega arith) in
    elim (up.each index (get_or old index set) set was at) [
      -- a set that has waited has its index in the list, and this one has not; so the set is as it was
      | inl has ↦ absurd (fresh has.0)
      | inr same ↦ subst (λ s. moment_of s ≤ moment) (sym same.1) (early index set (omega arith))
    ]

-- where no index stands twice in a list, the one at a place is not among those before it
pub fresh_next : (xs : List ℕ) (i d : ℕ) → AllPairs (λ a b. a ≢ b) xs → i < length xs → ¬ Contains (take i xs) (get_or xs i d)
fresh_next xs i d once low has =
    let short : length (take i xs) ≡ i = length-take-le i xs (omega arith) in
    let before : has.0 < i = omega (arith, has.1) in
    once has.0 i d before low (get_or_default xs has.0 d (get_or xs i d) (omega arith) ∙ sym (get_or-take i xs has.0 (get_or xs i d) before) ∙ has.2)

-- each of the first elements of a list is in the list
pub take_among : (i : ℕ) (xs : List ℕ) (n : ℕ) → Contains (take i xs) n → Contains xs n
take_among zero xs n has = absurd (Contains-nil n has)
take_among (suc i) [] n has = has
take_among (suc i) (x ∷ xs) n has =
    elim (Contains-cons_cases x (take i xs) n has) [
      | inl same ↦ subst (Contains (x ∷ xs)) same (Contains-get_or (x ∷ xs) 0 x (omega arith))
      | inr rest ↦ Contains-append_right (x ∷ []) xs n (take_among i xs n rest)
    ]

-- an element that is lent from a list is in the list
-- r is the element at the place i, if there is one, o is its copy, and x its value
pub item_among : (xs : List ℕ) (i : ℕ) (r : Option (Bor ℕ)) (o : Option ℕ) (x : ℕ) → IsItemAt xs i r → o ≡ option_copied r → o ≡ Some x → Contains xs x
item_among xs i None o x item copied is = (let no : Some x ≡ None = sym is ∙ copied in absurd cc)
item_among xs i (Some b) o x item copied is =
    let low : i < length xs = ltb-true i (length xs) (sym item.0) in
    let same : b.now ≡ x = same_Some b.now x (sym copied ∙ is) in
    (i, low, get_or_default xs i x b.now low ∙ sym item.1 ∙ same)

-- the element at a place of a list is in the list
pub place_among : (xs : List ℕ) (i d : ℕ) → i < length xs → Contains xs (get_or xs i d)
place_among xs i d low = (i, low, get_or_default xs i (get_or xs i d) d low)

-- What follows is of marks beside sets.

-- an index within the marks that is not marked has the mark `false`
not_marked : (marks : List Bool) (n : ℕ) → n < length marks → ¬ IsMarked marks n → slice_get marks n ≡ Some false
not_marked [] n low none = absurd (omega arith)
not_marked (true ∷ marks) zero low none = absurd (none refl)
not_marked (false ∷ marks) zero low none = refl
not_marked (m ∷ marks) (suc n) low none = not_marked marks n (omega arith) none

-- where exactly the marked indices were made to wait, every set has waited, or it names nothing and is as before
pub marked_advance : (moment : ℕ) (marked : List ℕ) (marks : List Bool) (old new : List AnySet) → length marks ≡ length old → AreMarked marks old
    → ((n : ℕ) → Contains marked n ↔ IsMarked marks n) → AdvancesAt moment marked old new
    → (n : ℕ) (a b : AnySet) → slice_get old n ≡ Some a → slice_get new n ≡ Some b → IsAdvanced moment a b
marked_advance moment marked marks old new long are members up n a b was is =
    let low = slice_get_within old n a was in
    elim (up.each n a b was is) [
      | inl waited ↦ inl waited.1
      | inr same ↦ inr (same.1, are n a was (not_marked marks n (omega arith) (λ mark. same.0 ((members n).1 mark))))
    ]

-- where exactly the marked indices were made to wait, and all are marked, every set has waited
pub all_advance : (moment : ℕ) (marked : List ℕ) (marks : List Bool) (old new : List AnySet) → length marks ≡ length old → All (λ is_marked. is_marked ≡ true) marks
    → ((n : ℕ) → Contains marked n ↔ IsMarked marks n) → AdvancesAt moment marked old new
    → (n : ℕ) (a b : AnySet) → slice_get old n ≡ Some a → slice_get new n ≡ Some b → SetWaits moment a b
all_advance moment marked marks old new long all members up n a b was is =
    -- n is a place of the marks, and all of them are marked, so the set at n has waited
    let low = slice_get_within old n a was in
    let inside : n < length marks = omega (arith, low, long) in
    elim (up.each n a b was is) [
      | inl waited ↦ waited.1
      | inr same ↦ absurd (same.0 ((members n).1 (slice_get-get_or marks n true inside ∙ ap Some (all n true inside))))
    ]

-- where the sets at some indices were made to wait, each set has waited or is as before
pub some_advance : (moment : ℕ) (indices : List ℕ) (old new : List AnySet) → AdvancesAt moment indices old new
    → (n : ℕ) (a b : AnySet) → slice_get old n ≡ Some a → slice_get new n ≡ Some b → IsAdvanced moment a b ⊎ (b ≡ a)
some_advance moment indices old new up n a b was is = elim (up.each n a b was is) [ inl waited ↦ inl (inl waited.1) | inr same ↦ inr same.1 ]

-- P still holds of the sets that are not marked where only marked ones were made to wait
pub marked_still : (P : AnySet → Type 0) (moment : ℕ) (indices : List ℕ) (marks : List Bool) (old new : List AnySet) → ElseHolds P marks old → ((n : ℕ) → Contains indices n → IsMarked marks n)
    → AdvancesAt moment indices old new → ElseHolds P marks new
marked_still P moment indices marks old new are some up n set at mark =
    let low = slice_get_within new n set at in
    let long = up.long in
    -- the old set at n is not marked, so it did not wait, and the new one is the same
    let was : slice_get old n ≡ Some (get_or old n set) = slice_get-get_or old n set (omega arith) in
    elim (up.each n (get_or old n set) set was at) [
      | inl waited ↦ absurd (true≢false (same_Some true false (sym (some n waited.0) ∙ mark)))
      | inr same ↦ subst P (sym same.1) (are n (get_or old n set) was mark)
    ]

-- P holds of the sets that are not marked with one more set of which it holds, without a mark
pub marked_push : (P : AnySet → Type 0) (marks : List Bool) (sets : List AnySet) (set : AnySet) → length marks ≡ length sets → ElseHolds P marks sets → P set
    → ElseHolds P (marks ++ false ∷ []) (sets ++ set ∷ [])
marked_push P marks sets set long are silent n other at mark =
    elim (push_place sets set n other at) [
      -- the set at the index is an old one with its old mark, or the new one
      | inl old ↦ elim (push_place marks false n false mark) [
        | inl was ↦ are n other old was
        | inr new ↦ (let low = slice_get_within sets n other old in absurd (omega (arith, long, low, new.0)))
      ]
      | inr new ↦ subst P new.1 silent
    ]

-- P holds of the sets that are not marked once any set is put at an index that is marked with it
pub marked_set : (P : AnySet → Type 0) (marks : List Bool) (sets : List AnySet) (index : ℕ) (set : AnySet) → ElseHolds P marks sets → ElseHolds P (slice_set marks index true) (slice_set sets index set)
marked_set P marks sets index set are n other at mark =
    elim (set_place marks index n true false mark) [
      | inl here ↦ absurd (true≢false here.1)
      | inr was ↦ elim (set_place sets index n set other at) [ inl here ↦ absurd (was.0 here.0) | inr old ↦ are n other old.1 was.1 ]
    ]

-- P holds of the sets that are not marked once the mark is taken off a set of which it holds
pub unmarked : (P : AnySet → Type 0) (marks : List Bool) (sets : List AnySet) (index : ℕ) (set : AnySet) → ElseHolds P marks sets → slice_get sets index ≡ Some set → P set
    → ElseHolds P (slice_set marks index false) sets
unmarked P marks sets index set are at silent n other is mark =
    elim (set_place marks index n false false mark) [
      | inl here ↦ subst P (same_Some set other (sym at ∙ ap (slice_get sets) (sym here.0) ∙ is)) silent
      | inr was ↦ are n other is was.1
    ]

-- an index that is marked after a mark was taken off was marked before
pub not_unmarked : (marks : List Bool) (index n : ℕ) → IsMarked (slice_set marks index false) n → IsMarked marks n
not_unmarked marks index n mark = elim (set_place marks index n false true mark) [ inl here ↦ absurd (true≢false (sym here.1)) | inr other ↦ other.1 ]

-- What follows is of two lists of marks: what the first marks, the second marks too.

-- each index that the first list marks, the second marks
abbrev pub AreAmong : List Bool → List Bool → Type 0
AreAmong marks moved = (index : ℕ) → IsMarked marks index → IsMarked moved index

-- the indices marked in `marks` stay among those in `moved` where both lists get one more mark, `false`
pub within_push : (marks moved : List Bool) → length marks ≡ length moved → AreAmong marks moved → AreAmong (marks ++ false ∷ []) (moved ++ false ∷ [])
within_push marks moved long within index mark =
    elim (push_place marks false index true mark) [
      | inl old ↦ slice_get-push moved false index true (within index old)
      | inr new ↦ absurd (true≢false (sym new.1))
    ]
  where
    -- an element of a list stands at the same index with one element more
    slice_get-push : (xs : List Bool) (a : Bool) (n : ℕ) (x : Bool) → slice_get xs n ≡ Some x → slice_get (xs ++ a ∷ []) n ≡ Some x
    slice_get-push [] a n x at = absurd cc
    slice_get-push (u ∷ xs) a zero x at = at
    slice_get-push (u ∷ xs) a (suc n) x at = slice_get-push xs a n x at

-- the indices marked in `marks` stay among those in `moved` where the same mark is written at one place of both
pub within_set : (marks moved : List Bool) (at : ℕ) (b : Bool) → length marks ≡ length moved → AreAmong marks moved → AreAmong (slice_set marks at b) (slice_set moved at b)
within_set marks moved at b long within index mark =
    elim (set_place marks at index b true mark) [
      | inl here ↦ subst (λ n. slice_get (slice_set moved at b) n ≡ Some true) (sym here.0)
          (set_here moved at b (let low = slice_get_within (slice_set marks at b) index true mark in let size = length-set marks at b in omega (arith, here.0, low, size, long)) ∙ ap Some here.1)
      | inr other ↦ set_other moved at index b true other.0 (within index other.1)
    ]

-- the set that a key starts with names no message
pub start_names : (p : Times) (key : KeyParts) → numbers_of (start_of p key) ≡ []
start_names p key = start_silent p (machine_of_key p.rules key)

-- the set that a key starts with is quiet
pub start_quiet : (p : Times) (key : KeyParts) → IsQuietSet (start_of p key)
start_quiet p key = start_is_quiet p (machine_of_key p.rules key)

-- What follows is of the sets that a restart may change.

-- the numbers of the marked sets, each given once, are those that a restart needs, where each set that is not marked is quiet
pub restart_numbers : (t : Tabled) (moved : List Bool) (marked numbers : List ℕ) → numbers ≡ map (λ i. i + 1) marked → length moved ≡ length t.keys → length t.sets ≡ length t.keys → ElseHolds IsQuietSet moved t.sets
    → ((n : ℕ) → Contains marked n ↔ IsMarked moved n) → AllPairs (λ a b. a ≢ b) marked → AreToRestart t numbers
restart_numbers t moved marked numbers is long as_long quiet members once = subst (AreToRestart t) (sym is) (record {
  -- each number is one more than a marked place, and so the number of a set
  given = λ k d low.
      (let size = length-map marked (λ i. i + 1) in
      let within : k < length marked = omega (arith, low, size) in
      let mark = (members (get_or marked k 0)).0 (place_among marked k 0 within) in
      let high = slice_get_within moved (get_or marked k 0) true mark in
      subst (IsGiven t) (sym (get_or-map (λ i. i + 1) marked k 0 d within)) (record { low = omega arith; high = omega (arith, high, long) }));
  -- two equal numbers would be of one marked place, which stands once among the marked
  apart = λ i j d less low same.
      (let size = length-map marked (λ n. n + 1) in
      let last : j < length marked = omega (arith, low, size) in
      let first : i < length marked = omega (arith, less, last) in
      once i j 0 less last (omega (arith, sym (get_or-map (λ n. n + 1) marked i 0 d first) ∙ same ∙ get_or-map (λ n. n + 1) marked j 0 d last)));
  -- a set whose number is not given is not marked, and so it is quiet
  others = λ place set at none.
      let low = slice_get_within t.sets place set at in
      quiet place set at (not_marked moved place (omega (arith, low, as_long, long)) (λ mark. none (Contains-map (λ i. i + 1) marked place ((members place).1 mark))));
})

-- What follows is of the numbers that marked sets name.

-- the numbers that the set at an index names, or none where no set is there
abbrev pub numbers_at : List AnySet → ℕ → List ℕ
numbers_at [] index = []
numbers_at (set ∷ sets) zero = numbers_of set
numbers_at (set ∷ sets) (suc index) = numbers_at sets index

-- where a set stands at an index, the numbers there are those that it names
pub numbers_at-is : (sets : List AnySet) (index : ℕ) (set : AnySet) → slice_get sets index ≡ Some set → numbers_at sets index ≡ numbers_of set
numbers_at-is [] index set at = absurd cc
numbers_at-is (s ∷ sets) zero set at = ap numbers_of (same_Some s set at)
numbers_at-is (s ∷ sets) (suc index) set at = numbers_at-is sets index set at

-- a number that the set at an index names is among the numbers of all the sets
at_among : (sets : List AnySet) (index n : ℕ) → Contains (numbers_at sets index) n → Contains (flat_map numbers_of sets) n
at_among [] index n has = has
at_among (s ∷ sets) zero n has = Contains-append_left (numbers_of s) (flat_map numbers_of sets) n has
at_among (s ∷ sets) (suc index) n has = Contains-append_right (numbers_of s) (flat_map numbers_of sets) n (at_among sets index n has)

-- the numbers that all the sets name are those that the marked ones name, where the others name none
pub marked_names : (marked : List ℕ) (marks : List Bool) (sets : List AnySet) → length marks ≡ length sets → AreMarked marks sets
    → ((n : ℕ) → Contains marked n ↔ IsMarked marks n) → (n : ℕ) → Contains (flat_map (numbers_at sets) marked) n ↔ Contains (flat_map numbers_of sets) n
marked_names marked marks sets long are members n = (
  λ has. (let found = Contains-from_flat_map (numbers_at sets) marked n has in at_among sets found.0 n found.2),
  λ has.
      -- a number that some set names is named by a marked one, since the others name none
      let found = Contains-from_flat_map numbers_of sets n has in
      let index = found.1.0 in
      let at : slice_get sets index ≡ Some found.0 = slice_get-get_or sets index found.0 found.1.1 ∙ ap Some found.1.2 in
      let low = found.1.1 in
      let here : Contains (numbers_at sets index) n = subst (λ ns. Contains ns n) (sym (numbers_at-is sets index found.0 at)) found.2 in
      -- the set is marked, or it names nothing
      elim (mark_cases marks index (omega arith)) [
        | inl mark ↦ Contains-flat_map (numbers_at sets) marked index n ((members index).1 mark) here
        | inr none ↦ absurd (Contains-nil n (subst (λ ns. Contains ns n) (are index found.0 at none) found.2))
      ],
)
  where
    -- an index is marked or it is not
    mark_cases : (marks : List Bool) (n : ℕ) → n < length marks → IsMarked marks n ⊎ (slice_get marks n ≡ Some false)
    mark_cases [] n low = absurd (omega arith)
    mark_cases (true ∷ marks) zero low = inl refl
    mark_cases (false ∷ marks) zero low = inr refl
    mark_cases (m ∷ marks) (suc n) low = mark_cases marks n (omega arith)

-- a fact that holds anyway holds where a result is a success
pub always_ok : {A E : Type 0} (r : Result A E) (P : Type 0) → P → OnOk r P
always_ok (Ok x) P p = p
always_ok (Err e) P p = tt

-- a fact that holds anyway holds where a result is an error
pub always_err : {A E : Type 0} (r : Result A E) (P : Type 0) → P → OnErr r P
always_err (Ok x) P p = tt
always_err (Err e) P p = p

-- the numbers of the sets were appended, ascending and each once, unless the call was refused
-- r is the call's result, t the tables whose sets name the numbers, and `added` what was appended to `old`
pub named_if : {T E : Type 0} (r : Result T E) (t : Tabled) (old new added : List ℕ) → new ≡ cond (is_ok r) (old ++ added) old → AllPairs (λ a b. a < b) added
    → ((n : ℕ) → Contains added n ↔ Contains (flat_map numbers_of t.sets) n) → OnOk r (AppendsNamed t old new)
named_if (Ok x) t old new added is rising same = (added, is, rising, same)
named_if (Err e) t old new added is rising same = tt
