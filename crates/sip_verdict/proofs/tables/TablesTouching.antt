-- Keys that an entry concerns are looked up in the tables.
-- In the lemmas ks are keys, and ns their numbers.
-- es is what was observed of the entries so far.
use Rattle.std.proofs.Common.{◌≡◌, ◌≢◌, ◌≤◌, ◌<◌, ◌+◌, ◌-◌, ◌⊎◌, ◌||◌, inl, inr, ℕ, zero, suc, Bool, true, false, nat_eq, Option, Some, None, List, [], ◌∷◌, ◌++◌, All, AllPairs, Contains, length, slice_get, refl, sym, ap, ◌∙◌, subst, arith, length-append}
use Rattle.std.specs.Prelude.{fold}
use Rattle.std.specs.List.{list_any, zip}
use Rattle.std.specs.Cmp.{unsigned_Decides}
use Rattle.std.proofs.lemmas.List.Elements.{All-push}
use Rattle.std.proofs.lemmas.Option.{slice_get_within, get_or_from_slice_get}
use Rattle.sip_standard.specs.Key.{KeyParts, same_key}
use Rattle.sip_standard.proofs.SameKey.{same_key-decides}
use Rattle.sip_standard.specs.Times.{Times}
use Rattle.sip_machine.specs.Texts.{Texts, Keeps}
use Rattle.sip_machine.specs.NumberedEvent.{event_in}
use Rattle.sip_standard.specs.KeyMachine.{MachineKind, machine_of_key, transaction_of}
use Rattle.sip_standard.specs.Stands.{Stands}
use Rattle.sip_states.specs.inner.KeySets.{held_at_start, meaning_of}
use Rattle.sip_states.specs.Meaning.{IsKnown}
use Rattle.sip_states.specs.AnySet.{moment_of, IsKnownSet, start_of}
use Rattle.sip_states.specs.Tables.{Tabled, Touches, with_key}
use Rattle.sip_states.specs.declared.any_set.AnySet.{AnySet}
use Rattle.sip_verdict.specs.declared.passing.Hearing.{Hearing}
use Rattle.sip_standard.specs.Observation.{Observation}
use Rattle.sip_verdict.specs.Entries.{newest_moment}
use Rattle.sip_verdict.specs.inner.Keyed as keyed
use Rattle.sip_verdict.specs.inner.Tracking.{IsTouched}
use Rattle.sip_verdict.specs.inner.TablesTracking.{LeadsOf, key_keeping, transactions_of, AreTold, TouchesEach, HaveNumbers, is_among, MayPass, IsOnRecord, AreOnRecord}
use Rattle.sip_verdict.specs.inner.Concerned.{each, is_all}
use Rattle.sip_verdict.proofs.keys.Keys.{contains-among}
use Rattle.sip_verdict.proofs.keys.Leading.{Leads-start}
use Rattle.sip_verdict.proofs.keys.RunsStand.{stands_first}
use Rattle.sip_states.proofs.keyed.ByMachine.{first_of, first_is_of, first_knows, moment_is, to_set}
use Rattle.sip_states.proofs.lists.Places.{push_place}
use Rattle.sip_verdict.proofs.tables.TablesPassing.{keys_are, among_first, among_rest}
use Rattle.sip_verdict.proofs.tables.TrackingLemmas.{AreKept, kept_touched}

-- what holds of tables, and of them with any key more, holds after keys were looked up
touched_elim : (Q : Tabled → Type 0) → ((t : Tabled) (key : KeyParts) → Q t → Q (with_key t key)) → (key : KeyParts) (number : ℕ) (old new : Tabled) → Q old → Touches key number old new → Q new
touched_elim Q more key number old new holds (inl h) = subst Q (sym h.1) holds
touched_elim Q more key number old new holds (inr h) = subst Q (sym h.2) (more old key holds)

-- what holds of tables, and of them with any key more, holds after several keys were looked up
-- Q is what holds of tables, and ns are the numbers of the keys ks
-- no key is left, or one is looked up and then the others; there are as many numbers as keys
pub touches_elim : (Q : Tabled → Type 0) → ((t : Tabled) (key : KeyParts) → Q t → Q (with_key t key)) → (ks : List KeyParts) (ns : List ℕ) (old new : Tabled) → Q old → TouchesEach ks ns old new → Q new
touches_elim Q more [] [] old new holds same = subst Q (sym same) holds
touches_elim Q more [] (n ∷ ns) old new holds h = absurd h
touches_elim Q more (k ∷ ks) [] old new holds h = absurd h
touches_elim Q more (k ∷ ks) (n ∷ ns) old new holds (between, one, rest) = touches_elim Q more ks ns between new (touched_elim Q more k n old between holds one) rest

-- the times of the tables stay when keys are looked up
pub touches_times : (ks : List KeyParts) (ns : List ℕ) (old new : Tabled) → TouchesEach ks ns old new → new.times ≡ old.times
touches_times ks ns old new h = touches_elim (λ t. t.times ≡ old.times) (λ t key same. same) ks ns old new refl h

-- where each key has a set, each has one after a key came with the set that it starts with
long_more : (t : Tabled) (key : KeyParts) → length t.sets ≡ length t.keys → length (t.sets ++ start_of t.times key ∷ []) ≡ length (t.keys ++ key ∷ [])
long_more t key long = length-append t.sets (start_of t.times key ∷ []) ∙ ap (λ n. n + 1) long ∙ sym (length-append t.keys (key ∷ []))

-- keys that are looked up bring at most one new key each
-- no key is left; there are as many numbers as keys; a key that is known brings none, and a new one brings itself
pub touches_few : (ks : List KeyParts) (ns : List ℕ) (old new : Tabled) → TouchesEach ks ns old new → length new.keys ≤ length old.keys + length ks
touches_few [] [] old new same = let long = ap (λ t. length t.keys) same in omega arith
touches_few [] (n ∷ ns) old new h = absurd h
touches_few (k ∷ ks) [] old new h = absurd h
touches_few (k ∷ ks) (n ∷ ns) old new (between, one, rest) =
    let more = touches_few ks ns between new rest in
    elim one [ inl h ↦ (let long = ap (λ t. length t.keys) h.1 in omega arith) | inr h ↦ (let long = ap (λ t. length t.keys) h.2 ∙ length-append old.keys (k ∷ []) in omega arith) ]

-- the set that a key starts with has the moment 0
pub start_at : (p : Times) (key : KeyParts) → moment_of (start_of p key) ≡ 0
start_at p key =
    let machine = machine_of_key p.rules key in
    moment_is machine (held_at_start p machine)

-- every book knows the set that a key starts with
pub start_known : (texts : Texts) (p : Times) (key : KeyParts) → IsKnownSet texts (start_of p key)
start_known texts p key =
    let machine = machine_of_key p.rules key in
    to_set (λ X M S m s. IsKnown m texts s) machine (held_at_start p machine) (known_one machine)
  where
    -- the book knows the first set of each machine
    known_one : (machine : MachineKind) → IsKnown (meaning_of machine) texts (held_at_start p machine)
    known_one machine = All-push (λ x. All (Keeps texts) ((meaning_of machine).names x)) [] (first_of machine) (λ k d l. absurd (omega (arith, l))) (first_knows machine texts)

-- an entry that may pass the tables may pass them after keys were looked up
pub touches_may : (texts : Texts) (moment : ℕ) (ks : List KeyParts) (ns : List ℕ) (old new : Tabled) → MayPass texts old moment → TouchesEach ks ns old new → MayPass texts new moment
touches_may texts moment ks ns old new may h = touches_elim (λ t. MayPass texts t moment) more ks ns old new may h
  where
    -- one key more leaves what the entry may pass
    more : (t : Tabled) (key : KeyParts) → MayPass texts t moment → MayPass texts (with_key t key) moment
    more t key m = record {
      -- the set that the key starts with is of the moment 0 and names no message, and there are as many sets as keys
      order = All-push (λ set. moment_of set ≤ moment) t.sets (start_of t.times key) m.order (let at = start_at t.times key in omega arith);
      known = All-push (IsKnownSet texts) t.sets (start_of t.times key) m.known (start_known texts t.times key);
      long = long_more t key m.long;
    }

-- What follows shows that each last moment stays on record when keys come, except those of the sets that are to hear an event, whose numbers are `waits`.
module _ (waits : List ℕ) where
  -- where a key comes that is to hear the event, the last moments of the sets that are to hear alone may be missing
  -- the new key has no last moment on record, as one that waits for its event may
  -- `counts` says that the number is the one after all others, and `waiting` that the new key is to hear the event
  with_key_recorded : (key : KeyParts) (number : ℕ) (old : Tabled) → length old.sets ≡ length old.keys → number ≡ length old.keys + 1 → is_among waits number ≡ true → AreOnRecord waits old → AreOnRecord waits (with_key old key)
  with_key_recorded key number old long counts waiting h = record {
    long = length-append old.records (None ∷ []) ∙ ap (λ i. i + 1) h.long ∙ sym (length-append old.keys (key ∷ []));
    each = λ i s r at here. go i s r (push_place old.sets (start_of old.times key) i s at) (push_place old.records None i r here);
  }
    where
      -- the last moment of the set is on record: it is an old set with its old record, or the new one, whose record may be missing
      -- s is the set at the place i, and r its record
      go : (i : ℕ) (s : AnySet) (r : Option (Option ℕ)) → (slice_get old.sets i ≡ Some s) ⊎ ((i ≡ length old.sets) × (start_of old.times key ≡ s))
          → (slice_get old.records i ≡ Some r) ⊎ ((i ≡ length old.records) × (None ≡ r)) → IsOnRecord waits (i + 1) s r
      -- an old set has an old record, and the new set the new one, for there are as many sets as records; the new one waits to be put on record
      go i s r (inl a) (inl b) = h.each i s r a b
      go i s r (inl a) (inr b) = (let within = slice_get_within old.sets i s a in let same = h.long in absurd (omega (arith, b.0)))
      go i s r (inr a) (inl b) = (let within = slice_get_within old.records i r b in let same = h.long in absurd (omega (arith, a.0)))
      go i s r (inr a) (inr b) = subst (IsOnRecord waits (i + 1) s) b.1 (subst (λ n. is_among waits n ≡ true) (let same = h.long in omega (arith, counts, b.0)) waiting)

  -- after keys were looked up, those that are still to hear alone may lack a last moment on record
  -- ns are the numbers of the keys ks
  pub touches_recorded : (ks : List KeyParts) (ns : List ℕ) (old new : Tabled) → ((n : ℕ) → is_among ns n ≡ true → is_among waits n ≡ true) → length old.sets ≡ length old.keys → AreOnRecord waits old → TouchesEach ks ns old new
      → AreOnRecord waits new
  -- as many numbers as keys; `between` are the tables once the first key was looked up, and the others are looked up from there
  touches_recorded [] [] old new wait long h same = subst (AreOnRecord waits) (sym same) h
  touches_recorded [] (n ∷ ns) old new wait long h touched = absurd touched
  touches_recorded (k ∷ ks) [] old new wait long h touched = absurd touched
  touches_recorded (k ∷ ks) (n ∷ ns) old new wait long h (between, one, rest) =
      touches_recorded ks ns between new (λ i more. wait i (among_rest i n ns more)) (touched_elim (λ t. length t.sets ≡ length t.keys) long_more k n old between long one) (recorded one) rest
    where
      -- after one more key was looked up, what is on record is still right
      recorded : Touches k n old between → AreOnRecord waits between
      recorded (inl same) = subst (AreOnRecord waits) (sym same.1) h
      recorded (inr new_one) = subst (AreOnRecord waits) (sym new_one.2) (with_key_recorded k n old long new_one.1 (wait n (among_first n n ns refl)) h)

-- two lists of the same length, each with one element more at its end, are side by side the pairs of before and one pair more
-- x and y are the elements more
zip-push : {A B : Type 0} (xs : List A) (ys : List B) (x : A) (y : B) → length ys ≡ length xs → zip (xs ++ x ∷ []) (ys ++ y ∷ []) ≡ zip xs ys ++ (x, y) ∷ []
zip-push [] [] x y long = refl
-- both lists are of the same length
zip-push [] (v ∷ ys) x y long = absurd (omega arith)
zip-push (u ∷ xs) [] x y long = absurd (omega arith)
zip-push (u ∷ xs) (v ∷ ys) x y long = ap (λ z. (u, v) ∷ z) (zip-push xs ys x y (omega arith))

-- What follows is of keys that come into tables for the first time, beside the book `texts` and by the times p.
module _ (texts : Texts) (p : Times) where
  -- a new key's set leads to the runs over no event
  pub starts : (key : KeyParts) (from : ℕ) → LeadsOf texts p (machine_of_key p.rules key) [] from (start_of p key)
  starts key from =
      let machine = machine_of_key p.rules key in
      let m = meaning_of machine in (
        held_at_start p machine,
        refl,
        record { machine_is = refl; leads = Leads-start m.names m.seen texts (m.rules p) (Stands (transaction_of machine).figure p []) (stands_first p machine) (first_of machine) (first_is_of machine texts p) (first_knows machine texts) from },
      )

  -- what is kept of keys is kept when one key is looked up, and of that key too
  touched : (key : KeyParts) (number : ℕ) (old new : Tabled) → old.times ≡ p → length old.sets ≡ length old.keys → Touches key number old new
      → IsTouched (key_keeping texts p) (key, start_of p key) (transactions_of old) (transactions_of new)
  -- the key was known, and the tables are the same
  touched key number old new times long (inl h) = inl (
    ap transactions_of h.1,
    subst (λ ks. Contains ks key) (sym (keys_are old long)) (number - 1, slice_get_within old.keys (number - 1) key h.0.1, get_or_from_slice_get old.keys (number - 1) key key h.0.1),
  )
  -- the key is new, and so is its set
  touched key number old new times long (inr h) = inr (
    λ among. absent (subst (λ ks. Contains ks key) (keys_are old long) among),
    ap transactions_of h.2 ∙ zip-push old.keys old.sets key (start_of old.times key) long ∙ ap (λ q. transactions_of old ++ (key, start_of q key) ∷ []) times,
  )
    where
      -- the key is not among the old ones
      absent : ¬ Contains old.keys key
      absent (i, low, is) = h.0 i key low is

  -- what is kept of keys is kept when keys are looked up one after another, and of these too
  -- no key is left, or one is looked up and then the others; there are as many numbers as keys
  pub kept_each : (es : List (Observation KeyParts)) (keys ks : List KeyParts) (ns : List ℕ) (old new : Tabled) → old.times ≡ p → length old.sets ≡ length old.keys → TouchesEach ks ns old new
      → AreKept (key_keeping texts p) es keys (transactions_of old) → AreKept (key_keeping texts p) es (fold keyed.with_key keys ks) (transactions_of new)
  kept_each es keys [] [] old new times long same kept = subst (λ t. AreKept (key_keeping texts p) es keys (transactions_of t)) (sym same) kept
  kept_each es keys [] (n ∷ ns) old new times long h kept = absurd h
  kept_each es keys (k ∷ ks) [] old new times long h kept = absurd h
  kept_each es keys (k ∷ ks) (n ∷ ns) old new times long (between, one, rest) kept =
      kept_each es (keyed.with_key keys k) ks ns between new (touched_elim (λ t. t.times ≡ p) (λ t key same. same) k n old between times one)
      (touched_elim (λ t. length t.sets ≡ length t.keys) long_more k n old between long one) rest
      (kept_touched (key_keeping texts p) es (k, start_of p k) (starts k (newest_moment es)) keys (transactions_of old) (transactions_of between) kept (touched k n old between times long one))

-- an element of a list stays at its place when more elements come after it
-- x is the element at the place n of xs, and ys are those that come after
-- an empty list has no element; the place is the first, or a later one
pub slice_get-more : {A : Type 0} (xs ys : List A) (n : ℕ) (x : A) → slice_get xs n ≡ Some x → slice_get (xs ++ ys) n ≡ Some x
slice_get-more [] ys n x at = absurd cc
slice_get-more (u ∷ xs) ys zero x at = at
slice_get-more (u ∷ xs) ys (suc n) x at = slice_get-more xs ys n x at

-- the last element stands after all others
slice_get-last : {A : Type 0} (xs : List A) (x : A) → slice_get (xs ++ x ∷ []) (length xs) ≡ Some x
slice_get-last [] x = refl
slice_get-last (u ∷ xs) x = slice_get-last xs x

-- keys that were looked up have their numbers
-- there are as many numbers as keys; the first has its number, and keeps it when the others are looked up
pub have_numbers : (ks : List KeyParts) (ns : List ℕ) (old new : Tabled) → TouchesEach ks ns old new → HaveNumbers new.keys ns ks
have_numbers [] [] old new h = tt
have_numbers [] (n ∷ ns) old new h = absurd h
have_numbers (k ∷ ks) [] old new h = absurd h
have_numbers (k ∷ ks) (n ∷ ns) old new (between, one, rest) =
    let here = has_number one in
    (here.0, touches_elim (λ t. slice_get t.keys (n - 1) ≡ Some k) (λ t key at. slice_get-more t.keys (key ∷ []) (n - 1) k at) ks ns between new here.1 rest, have_numbers ks ns between new rest)
  where
    -- a key that was looked up has its number
    has_number : Touches k n old between → (0 < n) × (slice_get between.keys (n - 1) ≡ Some k)
    has_number (inl h) = (h.0.0, subst (λ t. slice_get t.keys (n - 1) ≡ Some k) (sym h.1) h.0.1)
    has_number (inr h) =
        let last : length old.keys ≡ n - 1 = omega (arith, h.1) in
        (omega (arith, h.1), subst (λ t. slice_get t.keys (n - 1) ≡ Some k) (sym h.2) (subst (λ i. slice_get (old.keys ++ k ∷ []) i ≡ Some k) last (slice_get-last old.keys k)))

-- two flags are equal where each is true if the other is
same_test : (a b : Bool) → (a ≡ true → b ≡ true) → (b ≡ true → a ≡ true) → a ≡ b
same_test true b f g = sym (f refl)
same_test false true f g = g refl
same_test false false f g = refl

-- where all elements of a list differ, no element stands at two places
-- x is the element that would stand at the places i and k
-- an empty list has no element; both places are the first, or one of them is, or both are later ones
pub same_place : {A : Type 0} (xs : List A) → AllPairs (λ a b. a ≢ b) xs → (i k : ℕ) (x : A) → slice_get xs i ≡ Some x → slice_get xs k ≡ Some x → i ≡ k
same_place [] apart i k x a b = absurd cc
same_place (u ∷ xs) apart zero zero x a b = refl
same_place (u ∷ xs) apart zero (suc k) x a b =
    let is : u ≡ x = cc in
    absurd (apart zero (suc k) x (omega arith) (let low = slice_get_within xs k x b in omega arith) (is ∙ sym (get_or_from_slice_get xs k x x b)))
-- the one place is the first, and the other a later one
same_place (u ∷ xs) apart (suc i) zero x a b =
    let is : u ≡ x = cc in
    absurd (apart zero (suc i) x (omega arith) (let low = slice_get_within xs i x a in omega arith) (is ∙ sym (get_or_from_slice_get xs i x x a)))
same_place (u ∷ xs) apart (suc i) (suc k) x a b =
    ap suc (same_place xs (λ m n d low within. apart (suc m) (suc n) d (omega arith) (omega arith)) i k x a b)

-- a key is one of the keys exactly if its number is among theirs
-- ns are the numbers of the keys ks among all keys, and k is the key at the place n of all
pub same_numbers : (all : List KeyParts) → AllPairs (λ a b. a ≢ b) all → (ns : List ℕ) (ks : List KeyParts) → HaveNumbers all ns ks → (n : ℕ) (k : KeyParts) → slice_get all n ≡ Some k → list_any (same_key k) ks ≡ is_among ns (n + 1)
-- no key and no number is among none; there are as many numbers as keys
same_numbers all apart [] [] h n k at = refl
same_numbers all apart [] (key ∷ ks) h n k at = absurd h
same_numbers all apart (i ∷ ns) [] h n k at = absurd h
-- the key is the first one, or among the others
same_numbers all apart (i ∷ ns) (key ∷ ks) (some, there, rest) n k at = λ j. one j || same_numbers all apart ns ks rest n k at j
  where
    -- the key is this one exactly if the number is its number
    one : same_key k key ≡ nat_eq (n + 1) i
    one =
        same_test (same_key k key) (nat_eq (n + 1) i)
        -- equal keys stand at one place, which has this number; and one number is of one place, where one key stands
        (λ same. (let place : n ≡ i - 1 = same_place all apart n (i - 1) key (at ∙ ap Some ((same_key-decides k key).0 same)) there in (unsigned_Decides (n + 1) i).1 (omega (arith, place, some))))
        (λ same. (let place : i - 1 ≡ n = omega (arith, (unsigned_Decides (n + 1) i).0 same) in
        let both : Some key ≡ Some k = sym there ∙ ap (slice_get all) place ∙ at in
        (same_key-decides k key).1 (let own : k ≡ key = cc in own)))

-- where no transaction hears an entry, it tells each key its moment
pub told_unheard : (texts : Texts) (keys : List KeyParts) (moment : ℕ) (e : Observation KeyParts) → e.event.moment ≡ moment → e.keys ≡ [] → AreTold texts keys moment None e
told_unheard texts keys moment e at none n k there = record { at = at; event = tt; concerned = ap (list_any (same_key k)) none }

-- an event is told to the keys that it concerns
pub told_event : (texts : Texts) (keys : List KeyParts) (moment : ℕ) (h : Hearing) (e : Observation KeyParts) → AllPairs (λ a b. a ≢ b) keys → is_all h.concerned ≡ false → HaveNumbers keys (each h.concerned) e.keys → e.event.moment ≡ moment
    → e.event ≡ event_in texts h.event → AreTold texts keys moment (Some h) e
told_event texts keys moment h e apart some numbers at event n k there =
    record { at = at; event = event; concerned = same_numbers keys apart (each h.concerned) e.keys numbers n k there ∙ sym (ap (λ b. b || is_among (each h.concerned) (n + 1)) some) }

-- a restart is told to all keys
pub told_restart : (texts : Texts) (keys : List KeyParts) (moment : ℕ) (h : Hearing) (e : Observation KeyParts) → is_all h.concerned ≡ true → e.keys ≡ keys → e.event.moment ≡ moment → e.event ≡ event_in texts h.event
    → AreTold texts keys moment (Some h) e
told_restart texts keys moment h e all same at event n k there = record {
  at = at;
  event = event;
  concerned = contains-among k e.keys (subst (λ ks. Contains ks k) (sym same) (n, slice_get_within keys n k there, get_or_from_slice_get keys n k k there))
      ∙ sym (ap (λ b. b || is_among (each h.concerned) (n + 1)) all);
}
