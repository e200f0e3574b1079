-- The sets of the tables hear the event of an entry, one after another.
-- In the lemmas ns are the numbers of the sets that hear the event, and t and u are the tables before and after.
-- n is a place in a list or the number of a set, and s the set there; a and b say what stands at a place of two lists.
use Rattle.std.proofs.Common.{◌≡◌, ◌≢◌, ◌<◌, ◌+◌, ◌-◌, ◌⊎◌, ◌||◌, inl, inr, ℕ, zero, suc, Bool, true, false, nat_eq, Option, Some, None, List, [], ◌∷◌, ◌++◌, All, AllPairs, Contains, map, length, set, slice_get, refl, sym, ap, ◌∙◌, subst, arith}
use Rattle.std.specs.List.{zip}
use Rattle.std.specs.Cmp.{unsigned_Decides}
use Rattle.std.proofs.lemmas.Bool.{false≢true}
use Rattle.std.proofs.lemmas.List.{length-set}
use Rattle.std.proofs.lemmas.List.Elements.{All-head, All-tail, All-weaker}
use Rattle.std.proofs.lemmas.List.Folds.{list_any_none}
use Rattle.std.proofs.lemmas.Option.{slice_get_within, get_or_from_slice_get}
use Rattle.std.proofs.lemmas.Slice.Zip.{firsts-zip}
use Rattle.sip_machine.specs.Texts.{Texts}
use Rattle.sip_machine.specs.NumberedEvent.{NumberedEvent}
use Rattle.sip_states.specs.AnySet.{IsAgendaOf}
use Rattle.sip_states.specs.Tables.{Tabled, IsGiven, Settles, with_set}
use Rattle.sip_states.specs.declared.any_set.AnySet.{AnySet}
use Rattle.sip_verdict.specs.declared.passing.Outcome.{Outcome}
use Rattle.sip_verdict.specs.declared.passing.Outcome.TheVariants as all
use Rattle.sip_verdict.specs.inner.Tracking.{first_of}
use Rattle.sip_verdict.specs.inner.TablesTracking.{transactions_of, is_among, IsOnRecord, AreOnRecord, AllAreOnRecord, AreOnRecordIf, Leaves, Hears, HearsEach, AreHearers}
use Rattle.sip_states.specs.Restarting.{AreToRestart}
use Rattle.sip_states.proofs.lists.Listed.{Contains-none, Contains-cons}
use Rattle.sip_states.proofs.lists.Places.{set_place}
use Rattle.sip_verdict.specs.declared.concerned.Concerned.{Concerned}
use Rattle.sip_verdict.specs.declared.concerned.Concerned.TheVariants as concerned
use Rattle.sip_verdict.specs.inner.Concerned.{each, is_all}
use Rattle.sip_verdict.proofs.verdicts.Outcomes.{both_fine}

-- a list has an element at each place
-- no place is in an empty list; the place is the first, or a later one
pub at_place : {A : Type 0} (xs : List A) (n : ℕ) → n < length xs → (x : A) × (slice_get xs n ≡ Some x)
at_place [] n low = absurd (omega arith)
at_place (x ∷ xs) zero low = (x, refl)
at_place (x ∷ xs) (suc n) low = at_place xs n (omega arith)

-- what holds of each element holds of the one at a place
pub All-place : {A : Type 0} (P : A → Type 0) (xs : List A) (n : ℕ) (x : A) → slice_get xs n ≡ Some x → All P xs → P x
All-place P xs n x at all = subst P (get_or_from_slice_get xs n x x at) (all n x (slice_get_within xs n x at))

-- what holds of the element at each place holds of all
pub All-places : {A : Type 0} (P : A → Type 0) (xs : List A) → ((n : ℕ) (x : A) → slice_get xs n ≡ Some x → P x) → All P xs
All-places P xs each n d low = let x = at_place xs n low in subst P (sym (get_or_from_slice_get xs n x.0 d x.1)) (each n x.0 x.1)

-- where x and y stand at the same place of two lists, the pair of them stands there in both lists side by side
-- a list that ends before the place has no element there
pub zip-place : {A B : Type 0} (xs : List A) (ys : List B) (n : ℕ) (x : A) (y : B) → slice_get xs n ≡ Some x → slice_get ys n ≡ Some y → slice_get (zip xs ys) n ≡ Some (x, y)
zip-place [] ys n x y a b = absurd cc
zip-place (u ∷ xs) [] n x y a b = absurd cc
zip-place (u ∷ xs) (v ∷ ys) zero x y a b = cc
zip-place (u ∷ xs) (v ∷ ys) (suc n) x y a b = zip-place xs ys n x y a b

-- a pair at a place of two lists side by side has the two elements that stand there
-- z is the pair at the place n of the lists xs and ys
-- a list that ends before the place has no element there
pub place-zip : {A B : Type 0} (xs : List A) (ys : List B) (n : ℕ) (z : A × B) → slice_get (zip xs ys) n ≡ Some z → (slice_get xs n ≡ Some z.0) × (slice_get ys n ≡ Some z.1)
place-zip [] ys n z at = absurd cc
place-zip (u ∷ xs) [] n z at = absurd cc
place-zip (u ∷ xs) (v ∷ ys) zero z at = let same : (u, v) ≡ z = cc in (ap (λ w. Some w.0) same, ap (λ w. Some w.1) same)
place-zip (u ∷ xs) (v ∷ ys) (suc n) z at = place-zip xs ys n z at

-- the keys of the transactions are the keys of the tables
pub keys_are : (t : Tabled) → length t.sets ≡ length t.keys → map (λ x. x.0) (transactions_of t) ≡ t.keys
keys_are t long = firsts-zip t.keys t.sets long

-- a number that is the first of a list or among the others, and is not the first, is among the others
pub among_one : (n number : ℕ) (ns : List ℕ) → is_among (number ∷ ns) n ≡ true → n ≢ number → is_among ns n ≡ true
among_one n number ns h differ = go (nat_eq n number) refl
  where
    -- n is not the first number, so it is among the others
    go : (b : Bool) → nat_eq n number ≡ b → is_among ns n ≡ true
    go true same = absurd (differ ((unsigned_Decides n number).0 same))
    go false same = sym (ap (λ b. b || is_among ns n) same) ∙ h

-- a number that is not among some numbers is not among them with one more before them, unless it is that one
pub among_not : (n number : ℕ) (ns : List ℕ) → is_among ns n ≡ false → (is_among (number ∷ ns) n ≡ false) ⊎ (n ≡ number)
among_not n number ns h = go (nat_eq n number) refl
  where
    -- a number that is not among the others is not among them all, or it is the first
    go : (b : Bool) → nat_eq n number ≡ b → (is_among (number ∷ ns) n ≡ false) ⊎ (n ≡ number)
    go true same = inr ((unsigned_Decides n number).0 same)
    go false same = inl (ap (λ b. b || is_among ns n) same ∙ h)

-- a number is among numbers of which it is the first
pub among_first : (n number : ℕ) (ns : List ℕ) → n ≡ number → is_among (number ∷ ns) n ≡ true
among_first n number ns same = ap (λ b. b || is_among ns n) ((unsigned_Decides n number).1 same)

-- a number that is among some numbers is among them with one more before them
pub among_rest : (n number : ℕ) (ns : List ℕ) → is_among ns n ≡ true → is_among (number ∷ ns) n ≡ true
among_rest n number ns h = go (nat_eq n number)
  where
    -- a number that is among the others is among them all
    go : (b : Bool) → (b || is_among ns n) ≡ true
    go true = refl
    go false = h

-- where all numbers of a list differ, the first is not among the others
pub first_apart : (number : ℕ) (ns : List ℕ) → AllPairs (λ a b. a ≢ b) (number ∷ ns) → is_among ns number ≡ false
first_apart number ns apart = list_any_none (nat_eq number) ns (λ k d low. differ _ (apart 0 (suc k) d (omega arith) (omega arith)))
  where
    -- numbers that differ fail the test of equal numbers
    differ : (n : ℕ) → number ≢ n → nat_eq number n ≡ false
    differ n apart_from = go (nat_eq number n) refl
      where
        -- the test cannot pass, since the numbers differ
        go : (b : Bool) → nat_eq number n ≡ b → b ≡ false
        go true same = absurd (apart_from ((unsigned_Decides number n).0 same))
        go false same = refl

-- a set that has heard leaves the keys as they were
-- in trouble or not, only the place of the set is written, and its record where it goes on
pub leaves_keys : (number : ℕ) (after : AnySet) (outcome : Outcome) (t u : Tabled) → Leaves number after outcome t u → u.keys ≡ t.keys
leaves_keys number after all.Fine t u h = ap (λ x. x.keys) h.2
leaves_keys number after (all.NoRun told) t u h = ap (λ x. x.keys) h
leaves_keys number after (all.TooWide told) t u h = ap (λ x. x.keys) h

-- a set that has heard stands in its place, and the other sets stand as they were
pub leaves_sets : (number : ℕ) (after : AnySet) (outcome : Outcome) (t u : Tabled) → Leaves number after outcome t u → u.sets ≡ set t.sets (number - 1) after
leaves_sets number after all.Fine t u h = ap (λ x. x.sets) h.2
leaves_sets number after (all.NoRun told) t u h = ap (λ x. x.sets) h
leaves_sets number after (all.TooWide told) t u h = ap (λ x. x.sets) h

-- where the last moment of a set was put on record, the set has taken its place and goes on
pub settles_leaves : (number : ℕ) (after : AnySet) (t u : Tabled) → Settles number (with_set t number after) u → Leaves number after all.Fine t u
settles_leaves number after t u s = (s.limit, subst (IsAgendaOf s.limit) same s.agenda, s.recorded)
  where
    -- the set at the place is the one after the entry
    same : s.set ≡ after
    same = elim (set_place t.sets (number - 1) (number - 1) after s.set s.at) [ inl h ↦ sym h.1 | inr h ↦ absurd (h.0 refl) ]

-- where its transaction is in trouble, a set that has heard stands with its number, and nothing else changes
pub trouble_leaves : (number : ℕ) (after : AnySet) (outcome : Outcome) (t : Tabled) → outcome ≢ all.Fine → Leaves number after outcome t (with_set t number after)
trouble_leaves number after all.Fine t trouble = absurd (trouble refl)
trouble_leaves number after (all.NoRun told) t trouble = refl
trouble_leaves number after (all.TooWide told) t trouble = refl

-- a number that was given is given still where the keys are the same
pub given_still : (number : ℕ) (t u : Tabled) → u.keys ≡ t.keys → IsGiven t number → IsGiven u number
given_still number t u keys g = record { low = g.low; high = (let same = ap length keys in let high = g.high in omega arith) }

-- What follows is of `after`, the set with this number, which has heard its event and has a state: `limit` is its last moment, which is put on record,
-- and those of ns are still to hear the event.
-- `old` says that, before this, only this set and those of ns may lack a last moment on record.
module _ (t : Tabled) (number : ℕ) (ns : List ℕ) (low : 0 < number) (after : AnySet) (limit : Option ℕ) (agenda : IsAgendaOf limit after) (old : AreOnRecord (number ∷ ns) t) where
  -- where the set's last moment was written, each place is on record, or its set is still to hear the event
  recorded_at : (n : ℕ) (s : AnySet) (r : Option (Option ℕ)) → slice_get (set t.sets (number - 1) after) n ≡ Some s → slice_get (set t.records (number - 1) (Some limit)) n ≡ Some r → IsOnRecord ns (n + 1) s r
  recorded_at n s r at here = go (set_place t.sets (number - 1) n after s at) (set_place t.records (number - 1) n (Some limit) r here)
    where
      -- the last moment of the set is on record, whether the set stands at the place of the number or elsewhere
      -- at the place of the number set and record are the new ones, elsewhere both are the old ones, and a mixture cannot be
      go : ((n ≡ number - 1) × (after ≡ s)) ⊎ ((n ≢ number - 1) × (slice_get t.sets n ≡ Some s)) → ((n ≡ number - 1) × (Some limit ≡ r)) ⊎ ((n ≢ number - 1) × (slice_get t.records n ≡ Some r))
          → IsOnRecord ns (n + 1) s r
      go (inl a) (inl b) = subst (IsOnRecord ns (n + 1) s) b.1 (subst (IsAgendaOf limit) a.1 agenda)
      go (inl a) (inr b) = absurd (b.0 a.0)
      go (inr a) (inl b) = absurd (a.0 b.0)
      go (inr a) (inr b) = only r (old.each n s r a.1 b.1)
        where
          -- what is on record of another set than the one that heard the event is as right as before
          only : (x : Option (Option ℕ)) → IsOnRecord (number ∷ ns) (n + 1) s x → IsOnRecord ns (n + 1) s x
          only None h = among_one (n + 1) number ns h (λ same. a.0 (omega (arith, same)))
          only (Some l) h = h

  -- once the last moment of the set is on record, those of the sets that are still to hear alone may be missing
  pub settled : (u : Tabled) → u.keys ≡ t.keys → u.sets ≡ set t.sets (number - 1) after → u.records ≡ set t.records (number - 1) (Some limit) → AreOnRecord ns u
  settled u keys sets records = record {
    long = ap length records ∙ length-set t.records (number - 1) (Some limit) ∙ old.long ∙ ap length (sym keys);
    each = λ n s r at here. recorded_at n s r (ap (λ xs. slice_get xs n) (sym sets) ∙ at) (ap (λ xs. slice_get xs n) (sym records) ∙ here);
  }

-- where one set has heard the event and is in no trouble, the last moments of those that are still to hear alone may be missing
heard_record : (texts : Texts) (event : NumberedEvent) (number : ℕ) (ns : List ℕ) (t u : Tabled) (outcome : Outcome) → IsGiven t number → AreOnRecord (number ∷ ns) t → Hears texts event number t u outcome → outcome ≡ all.Fine
    → AreOnRecord ns u
heard_record texts event number ns t u outcome given old h fine =
    -- `left`: the set stands in its place, with its last moment, `limit`, on record
    let (limit, agenda, left) = subst (λ o. Leaves number h.after o t u) fine h.leaves in
    settled t number ns given.low h.after limit agenda old u (ap (λ x. x.keys) left) (ap (λ x. x.sets) left) (ap (λ x. x.records) left)

-- a set that has heard leaves the numbers as they were given
pub heard_given : (texts : Texts) (event : NumberedEvent) (number : ℕ) (t u : Tabled) (outcome : Outcome) → Hears texts event number t u outcome → (ns : List ℕ) → All (IsGiven t) ns → All (IsGiven u) ns
heard_given texts event number t u outcome h ns given =
    let keys = leaves_keys number h.after outcome t u h.leaves in
    All-weaker (IsGiven t) (IsGiven u) (λ n g. given_still n t u keys g) ns given

-- where the outcome after some sets have heard is no trouble, so was the outcome before them
each_fine : (texts : Texts) (event : NumberedEvent) (ns : List ℕ) (t u : Tabled) (before after : Outcome) → HearsEach texts event ns t before u after → after ≡ all.Fine → before ≡ all.Fine
each_fine texts event [] t u before after h fine = sym h.1 ∙ fine
each_fine texts event (n ∷ ns) t u before after (between, one, first, rest) fine = (both_fine before one (each_fine texts event ns between u (first_of before one) after rest fine)).0

-- once each has heard its event and none is in trouble, all last moments are on record
heard_records : (texts : Texts) (event : NumberedEvent) (ns : List ℕ) (t u : Tabled) (before after : Outcome) → All (IsGiven t) ns → AreOnRecord ns t → HearsEach texts event ns t before u after → after ≡ all.Fine → AllAreOnRecord u
heard_records texts event [] t u before after given old h fine = subst AllAreOnRecord (sym h.0) old
heard_records texts event (n ∷ ns) t u before after given old (between, one, first, rest) fine =
    let one_fine = (both_fine before one (each_fine texts event ns between u (first_of before one) after rest fine)).1 in
    heard_records texts event ns between u (first_of before one) after (heard_given texts event n t between one first ns (All-tail (IsGiven t) n ns given))
    (heard_record texts event n ns t between one (All-head (IsGiven t) n ns given) old first one_fine) rest fine

-- where the last moments are on record if the outcome is fine, they are on record or the outcome is trouble
pub on_record_if : (outcome : Outcome) (t : Tabled) → (outcome ≡ all.Fine → AllAreOnRecord t) → AreOnRecordIf outcome t
on_record_if all.Fine t h = h refl
on_record_if (all.NoRun number) t h = tt
on_record_if (all.TooWide number) t h = tt

-- after the sets of these numbers have heard, all are on record if none is in trouble
pub heard_recorded : (texts : Texts) (event : NumberedEvent) (ns : List ℕ) (t u : Tabled) (before after : Outcome) → All (IsGiven t) ns → AreOnRecord ns t → HearsEach texts event ns t before u after → AreOnRecordIf after u
heard_recorded texts event ns t u before after given old h = on_record_if after u (heard_records texts event ns t u before after given old h)

-- What follows is of which sets hear an event.

-- where the last moments of few sets may be missing, those of more sets may be
pub recorded_more : (few more : List ℕ) (t : Tabled) → ((n : ℕ) → is_among few n ≡ true → is_among more n ≡ true) → AreOnRecord few t → AreOnRecord more t
recorded_more few more t among recorded = record { long = recorded.long; each = λ n set r at here. one n set r (recorded.each n set r at here) }
  where
    -- a last moment that may be missing among few may be missing among more
    one : (n : ℕ) (set : AnySet) (r : Option (Option ℕ)) → IsOnRecord few (n + 1) set r → IsOnRecord more (n + 1) set r
    one n set None h = among (n + 1) h
    one n set (Some limit) h = h

-- where an event names its transactions one by one, just these hear it
pub named_hearers : (t : Tabled) (c : Concerned ℕ) → is_all c ≡ false → All (IsGiven t) (each c) → AllPairs (λ a b. a ≢ b) (each c) → AreHearers t c (each c)
named_hearers t c some given apart = record {
  given = given;
  apart = apart;
  named = λ n among. among;
  heard = λ n among. ap (λ b. b || is_among (each c) n) some ∙ among;
  others = λ all. absurd (false≢true (sym some ∙ all));
}

-- a number that is an element of numbers is among them
-- an empty list has no element; n is the first number, or one of the others
pub is_among-of : (ns : List ℕ) (n : ℕ) → Contains ns n → is_among ns n ≡ true
is_among-of [] n has = absurd (Contains-none n has)
is_among-of (m ∷ ns) n has = elim (Contains-cons m ns n has) [ inl same ↦ among_first n m ns (sym same) | inr rest ↦ among_rest n m ns (is_among-of ns n rest) ]

-- the transactions that a restart may change are the ones that hear it
pub all_hearers : (t : Tabled) (numbers : List ℕ) → AreToRestart t numbers → AreHearers t concerned.All numbers
all_hearers t numbers are = record {
  given = are.given;
  apart = are.apart;
  named = λ n among. absurd (false≢true among);
  heard = λ n among. refl;
  others = λ all n set at none. are.others n set at (λ has. false≢true (sym none ∙ is_among-of numbers (n + 1) has));
}

-- What follows is of sets that hear an event one after another.

-- where some sets have heard the event, and then one more has, all of them have, and the outcomes are joined
-- the tables are t at first, u after the sets with the numbers ns have heard the event, and v after the set with the number n has
pub hears_more : (texts : Texts) (event : NumberedEvent) (ns : List ℕ) (n : ℕ) (t u v : Tabled) (before mid one : Outcome) → HearsEach texts event ns t before u mid → Hears texts event n u v one
    → HearsEach texts event (ns ++ n ∷ []) t before v (first_of mid one)
hears_more texts event [] n t u v before mid one (same, fine) last =
    (v, one, subst (λ x. Hears texts event n x v one) same last, (refl, ap (λ o. first_of o one) fine))
hears_more texts event (m ∷ ns) n t u v before mid one (between, first, hears, rest) last =
    (between, first, hears, hears_more texts event ns n between u v (first_of before first) mid one rest last)

-- What follows is of sets that do not hear an event.

-- the element at a place stays where the element at another place is replaced
-- the place that is written and the place that is looked at are each the first or a later one, and not both the first
pub set-other : {A : Type 0} (xs : List A) (i n : ℕ) (a : A) → n ≢ i → slice_get (set xs i a) n ≡ slice_get xs n
set-other [] i n a other = refl
set-other (x ∷ xs) zero zero a other = absurd (other refl)
set-other (x ∷ xs) zero (suc n) a other = refl
set-other (x ∷ xs) (suc i) zero a other = refl
set-other (x ∷ xs) (suc i) (suc n) a other = set-other xs i n a (λ same. other (ap suc same))

-- a number that is not among numbers is neither the first of them nor among the others
pub among_none : (n number : ℕ) (ns : List ℕ) → is_among (number ∷ ns) n ≡ false → (n ≢ number) × (is_among ns n ≡ false)
among_none n number ns h = (λ same. false≢true (sym h ∙ among_first n number ns same), go (is_among ns n) refl)
  where
    -- the search cannot find n among the others, since it is not among all
    go : (b : Bool) → is_among ns n ≡ b → b ≡ false
    go true at = absurd (false≢true (sym h ∙ among_rest n number ns at))
    go false at = refl

-- the set of a number that is not among the hearers stays as it is
pub hears_others : (texts : Texts) (event : NumberedEvent) (ns : List ℕ) (t u : Tabled) (before after : Outcome) → All (IsGiven t) ns → HearsEach texts event ns t before u after
    → (n : ℕ) → is_among ns (n + 1) ≡ false → slice_get u.sets n ≡ slice_get t.sets n
hears_others texts event [] t u before after given h n none = ap (λ x. slice_get x.sets n) h.0
hears_others texts event (m ∷ ns) t u before after given (between, one, first, rest) n none =
    let (other, others) = among_none (n + 1) m ns none in
    let low = (All-head (IsGiven t) m ns given).low in
    -- the set of the first hearer was written at another place
    let here : slice_get between.sets n ≡ slice_get t.sets n = ap (λ xs. slice_get xs n) (leaves_sets m first.after one t between first.leaves)
    ∙ set-other t.sets (m - 1) n first.after (λ same. other (omega (arith, same, low))) in
    hears_others texts event ns between u (first_of before one) after (heard_given texts event m t between one first ns (All-tail (IsGiven t) m ns given)) rest n others ∙ here

-- a number that the event does not concern is not among the hearers
-- c is what the event concerns, and `numbers` are those of the hearers
pub others_left : (c : Concerned ℕ) (numbers : List ℕ) (n : ℕ) → ((n : ℕ) → is_among numbers n ≡ true → (is_all c || is_among (each c) n) ≡ true) → (is_all c || is_among (each c) n) ≡ false → is_among numbers n ≡ false
others_left c numbers n heard none = go (is_among numbers n) refl
  where
    -- the search cannot find n, since the event does not concern it
    go : (b : Bool) → is_among numbers n ≡ b → b ≡ false
    go true at = absurd (false≢true (sym none ∙ heard n at))
    go false at = refl
