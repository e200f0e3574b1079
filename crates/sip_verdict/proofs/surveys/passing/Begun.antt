-- What is known of the transactions of a survey before they pass an entry.
use Rattle.std.proofs.Common.{◌≡◌, ◌≢◌, ◌≤◌, ◌<◌, ◌+◌, ◌-◌, ◌⊎◌, inl, inr, ℕ, zero, suc, Bool, true, false, Some, List, [], ◌∷◌, ◌++◌, All, Contains, length, slice_get, length-append, refl, sym, ap, ◌∙◌, subst, arith}
use Rattle.std.specs.Prelude.{fold}
use Rattle.std.specs.List.{list_any}
use Rattle.std.proofs.lemmas.Option.{slice_get_within, get_or_from_slice_get}
use Rattle.std.proofs.lemmas.List.{append-nil}
use Rattle.std.proofs.lemmas.List.Elements.{Contains-append_left}
use Rattle.std.proofs.lemmas.Bool.{cond-true, cond-false}
use Rattle.sip_standard.specs.Key.{KeyParts, same_key}
use Rattle.sip_machine.specs.Texts.{Texts}
use Rattle.sip_standard.specs.KeyMachine.{machine_of_key}
use Rattle.sip_states.specs.AnySet.{start_of}
use Rattle.sip_states.specs.Tables.{Tabled, Touches}
use Rattle.sip_states.specs.declared.any_set.AnySet.{AnySet}
use Rattle.sip_states.proofs.lists.Listed.{Contains-none}
use Rattle.sip_states.proofs.lists.Places.{push_place}
use Rattle.sip_verdict.specs.declared.troubled.Troubled.{Troubled}
use Rattle.sip_standard.specs.Observation.{Observation}
use Rattle.sip_standard.specs.VerdictOf.{keys_in, events_for}
use Rattle.sip_verdict.specs.Entries.{newest_moment}
use Rattle.sip_verdict.specs.inner.Keyed.{with_key}
use Rattle.sip_verdict.specs.inner.TablesTracking.{LeadsOf, TouchesEach}
use Rattle.sip_verdict.specs.inner.Surveying.{IsFresh, IsFollowed, TablesSurvey, IsPassing, ArePassing, any}
use Rattle.sip_verdict.proofs.keys.Keys.{contains-among, not_among, new_key}
use Rattle.sip_verdict.proofs.tables.TablesPassing.{All-place}
use Rattle.sip_verdict.proofs.keys.QuietSets.{leads_later}
use Rattle.sip_verdict.proofs.tables.TablesTouching.{starts}
use Rattle.sip_verdict.proofs.surveys.found.Sound.{idle_runs}
use Rattle.sip_verdict.proofs.surveys.passing.Unheard.{unheard_narrow}

-- tables that have grown by keys: each key and set is an old one; or it comes after them, its key is none of theirs, and its set is the one it starts with
pub record AreMore (old t : Tabled) : Type 0 where
  pub times : t.times ≡ old.times
  pub long : length t.sets ≡ length t.keys
  pub few : length old.keys ≤ length t.keys
  pub among : (key : KeyParts) → Contains old.keys key → Contains t.keys key
  pub each : (n : ℕ) (key : KeyParts) (s : AnySet) → slice_get t.keys n ≡ Some key → slice_get t.sets n ≡ Some s
      → ((slice_get old.keys n ≡ Some key) × (slice_get old.sets n ≡ Some s)) ⊎ ((length old.keys ≤ n) × (s ≡ start_of old.times key) × ¬ Contains old.keys key)

-- tables have grown from themselves by no key
pub none_more : (t : Tabled) → length t.sets ≡ length t.keys → AreMore t t
none_more t long = record { times = refl; long = long; few = omega arith; among = λ key has. has; each = λ n key s at here. inl (at, here) }

-- What follows is of the tables t, which are `old` with more keys, and of one key more, k, which was looked up and has the number n.
module _ (old t : Tabled) (h : AreMore old t) (k : KeyParts) (n : ℕ) where
  -- a key that differs from each of some keys is not among them
  absent : (ks : List KeyParts) → All (λ key. key ≢ k) ks → ¬ Contains ks k
  absent ks all (i, low, is) = all i k low is

  -- tables that have grown by keys have grown by them and by one more that was looked up
  -- the key was known, and the tables stay; or it is new, and comes at the end with the set that it starts with
  one_more : (u : Tabled) → Touches k n t u → AreMore old u
  one_more u (inl known) = subst (AreMore old) (sym known.1) h
  one_more u (inr (new, counts, is)) = subst (AreMore old) (sym is) (record {
    times = h.times;
    long = (let a = length-append t.sets (start_of t.times k ∷ []) in let b = length-append t.keys (k ∷ []) in let same = h.long in omega arith);
    few = (let b = length-append t.keys (k ∷ []) in let low = h.few in omega arith);
    among = λ key has. Contains-append_left t.keys (k ∷ []) key (h.among key has);
    each = λ i key s at here. by i key s (push_place t.keys k i key at) (push_place t.sets (start_of t.times k) i s here);
  })
    where
      -- the key and its set are old ones, or the new key and the set in which it starts
      -- i is the place of the key, and s its set
      by : (i : ℕ) (key : KeyParts) (s : AnySet) → (slice_get t.keys i ≡ Some key) ⊎ ((i ≡ length t.keys) × (k ≡ key)) → (slice_get t.sets i ≡ Some s) ⊎ ((i ≡ length t.sets) × (start_of t.times k ≡ s))
          → ((slice_get old.keys i ≡ Some key) × (slice_get old.sets i ≡ Some s)) ⊎ ((length old.keys ≤ i) × (s ≡ start_of old.times key) × ¬ Contains old.keys key)
      -- key and set are old ones
      by i key s (inl a) (inl b) = h.each i key s a b
      -- the one is old and the other new: no place is within the list and at its end
      by i key s (inl a) (inr b) = (let within = slice_get_within t.keys i key a in let same = h.long in absurd (omega (arith, b.0)))
      by i key s (inr a) (inl b) = (let within = slice_get_within t.sets i s b in let same = h.long in absurd (omega (arith, a.0)))
      -- both are new: the place is past the old keys, the set starts by the old times, and no old key is this one
      by i key s (inr a) (inr b) = inr (
        (let low = h.few in omega (arith, a.0)),
        sym b.1 ∙ ap (λ q. start_of q k) h.times ∙ ap (start_of old.times) a.1,
        λ has. absent t.keys new (subst (Contains t.keys) (sym a.1) (h.among key has)),
      )

-- tables that have grown by keys have grown still after more keys were looked up
-- ns are the numbers of the keys ks; t and u are the tables before and after these were looked up
-- there are as many keys as numbers; each key that was looked up is one step
pub more_each : (old : Tabled) (ks : List KeyParts) (ns : List ℕ) (t u : Tabled) → AreMore old t → TouchesEach ks ns t u → AreMore old u
more_each old [] [] t u h same = subst (AreMore old) (sym same) h
more_each old [] (n ∷ ns) t u h touched = absurd touched
more_each old (k ∷ ks) [] t u h touched = absurd touched
more_each old (k ∷ ks) (n ∷ ns) t u h (between, one, rest) = more_each old ks ns between u (one_more old t h k n between one) rest

-- after a key was looked up, the keys are those that there were, with this one where it is new
-- n is the number of the key k; t and u are the tables before and after it was looked up
touched_key : (k : KeyParts) (n : ℕ) (t u : Tabled) → Touches k n t u → u.keys ≡ with_key t.keys k
touched_key k n t u (inl (has, same)) =
    -- the key was there, and the tables stay
    ap (λ x. x.keys) same
    ∙ sym (cond-true (list_any (same_key k) t.keys) t.keys (t.keys ++ k ∷ [])
    (contains-among k t.keys (n - 1, slice_get_within t.keys (n - 1) k has.1, get_or_from_slice_get t.keys (n - 1) k k has.1)))
touched_key k n t u (inr (new, counts, is)) =
    -- the key is new, and comes after the others
    ap (λ x. x.keys) is
    ∙ sym (cond-false (list_any (same_key k) t.keys) t.keys (t.keys ++ k ∷ []) (not_among k t.keys (λ (i, low, same). new i k low same)))

-- after keys were looked up the keys are those that there were, and each new one once
-- ns are the numbers of the keys ks; t and u are the tables before and after these were looked up
pub touched_keys : (ks : List KeyParts) (ns : List ℕ) (t u : Tabled) → TouchesEach ks ns t u → u.keys ≡ fold with_key t.keys ks
touched_keys [] [] t u same = ap (λ x. x.keys) same
-- there are as many keys as numbers
touched_keys [] (n ∷ ns) t u h = absurd h
touched_keys (k ∷ ks) [] t u h = absurd h
touched_keys (k ∷ ks) (n ∷ ns) t u (between, one, rest) = touched_keys ks ns between u rest ∙ ap (λ keys. fold with_key keys ks) (touched_key k n t between one)

-- an element of two lists, one after the other, is that of the first list where its place lies within that list
-- xs and ys are the two lists, and x is the element at the place n
pub front_place : {A : Type 0} (xs ys : List A) (n : ℕ) (x : A) → n < length xs → slice_get (xs ++ ys) n ≡ Some x → slice_get xs n ≡ Some x
front_place [] ys n x low at = absurd (omega (arith, low))
front_place (u ∷ xs) ys zero x low at = at
front_place (u ∷ xs) ys (suc n) x low at = front_place xs ys n x (omega (arith, low)) at

-- what holds of each element of the second list holds of one that stands past the first
-- xs and ys are the two lists, and x is the element at the place n
pub back_place : {A : Type 0} (P : A → Type 0) (xs ys : List A) (n : ℕ) (x : A) → length xs ≤ n → All P ys → slice_get (xs ++ ys) n ≡ Some x → P x
back_place P [] ys n x low all at = All-place P ys n x at all
back_place P (u ∷ xs) ys zero x low all at = absurd (omega (arith, low))
back_place P (u ∷ xs) ys (suc n) x low all at = back_place P xs ys n x (omega (arith, low)) all at

-- What follows is of the tables `old`, which track the entries es, and of new keys, which are in no trouble: `deaf` says which of the old are, `more` which
-- of the new.
module _ (texts : Texts) (es : List (Observation KeyParts)) (e : Observation KeyParts) (old : Tabled) (deaf more : List Bool) (tracks : TablesSurvey texts es old deaf) (long : length deaf ≡ length old.keys)
    (false_all : All (λ d. d ≡ false) more) (late : newest_moment es ≤ e.event.moment) where
  -- a key that no entry concerns is in no trouble, and the set that it starts with follows the entries
  new_follows : (key : KeyParts) (s : AnySet) → s ≡ start_of old.times key → ¬ Contains old.keys key → IsFollowed texts old.times es key s false
  new_follows key s is none =
      let p = old.times in
      -- the key is not among those of the entries, so that it has no event
      let silent = new_key key es (not_among key (keys_in es) (λ has. none (subst (λ ks. Contains ks key) (sym tracks.keys) has))) in (
        subst (LeadsOf texts p (machine_of_key p.rules key) (events_for key es) (newest_moment es)) (sym is)
            (subst (λ events. LeadsOf texts p (machine_of_key p.rules key) events (newest_moment es) (start_of p key)) (sym silent) (starts texts p key (newest_moment es))),
        (idle_runs p es key silent, unheard_narrow p es key silent),
      )

  -- before the entry e passes, each transaction is still to hear it, and none has come into trouble at it
  pub begun : (u : Tabled) (b : Troubled) → AreMore old u → IsFresh b → b.deaf.items ≡ deaf ++ more → ArePassing texts old.times es e any u b
  begun u b h fresh deaf_is = record {
    broken = λ n has. absurd (Contains-none n (subst (λ ns. Contains ns n) fresh.broken has));
    wide = λ n has. absurd (Contains-none n (subst (λ ns. Contains ns n) fresh.wide has));
    each = λ n key s d at here is. by n key s d (ap (λ ds. slice_get ds n) (sym deaf_is) ∙ is) (h.each n key s at here);
  }
    where
      -- an old transaction is passing the entry
      -- n is the place of the key, s its set and d whether it is deaf
      follows : (n : ℕ) (key : KeyParts) (s : AnySet) (d : Bool) → IsFollowed texts old.times es key s d → IsPassing texts old.times es e any b (n + 1) key s d
      follows n key s true (leads, unsound) = (leads_later texts old.times (machine_of_key old.times.rules key) [] (newest_moment es) e.event.moment s late leads, inl unsound)
      follows n key s false (ready, sound) = (sound, ready)

      -- the transaction passes the entry, be it an old one or a new one
      -- n is the place of the key, s its set and d whether it is deaf
      by : (n : ℕ) (key : KeyParts) (s : AnySet) (d : Bool) → slice_get (deaf ++ more) n ≡ Some d
          → ((slice_get old.keys n ≡ Some key) × (slice_get old.sets n ≡ Some s)) ⊎ ((length old.keys ≤ n) × (s ≡ start_of old.times key) × ¬ Contains old.keys key) → IsPassing texts old.times es e any b (n + 1) key s d
      -- an old transaction stands at its place, with its flag, and is followed as before
      by n key s d is (inl (at, here)) =
          follows n key s d (tracks.each n key s d at here (front_place deaf more n d (let within = slice_get_within old.keys n key at in omega arith) is))
      -- a new one comes after the old ones, so that its flag is a new one, and says that it is in no trouble
      by n key s d is (inr (low, start, none)) =
          follows n key s d (subst (IsFollowed texts old.times es key s) (sym (back_place (λ x. x ≡ false) deaf more n d (omega arith) false_all is)) (new_follows key s start none))

-- where an entry brings no new key, each transaction is still to hear it
pub begun_same : (texts : Texts) (es : List (Observation KeyParts)) (e : Observation KeyParts) (t : Tabled) (b : Troubled) → TablesSurvey texts es t b.deaf.items → length b.deaf.items ≡ length t.keys → length t.sets ≡ length t.keys
    → newest_moment es ≤ e.event.moment → IsFresh b → ArePassing texts t.times es e any t b
begun_same texts es e t b tracks long sets late fresh =
    begun texts es e t b.deaf.items [] tracks long (λ k d low. absurd (omega (arith, low))) late t b (none_more t sets) fresh (sym (append-nil b.deaf.items))

-- where the keys of an entry were looked up, each transaction is still to hear it
-- t and b are the tables and the trouble before the keys were looked up, and u and c those after
pub begun_touched : (texts : Texts) (es : List (Observation KeyParts)) (e : Observation KeyParts) (t u : Tabled) (b c : Troubled) (more : List Bool) → TablesSurvey texts es t b.deaf.items → length b.deaf.items ≡ length t.keys
    → length t.sets ≡ length t.keys → newest_moment es ≤ e.event.moment → IsFresh b → c.deaf.items ≡ b.deaf.items ++ more → All (λ d. d ≡ false) more → c.broken.items ≡ b.broken.items → c.wide.items ≡ b.wide.items
    → (ks : List KeyParts) (ns : List ℕ) → TouchesEach ks ns t u → ArePassing texts t.times es e any u c
begun_touched texts es e t u b c more tracks long sets late fresh deaf false_all broken wide ks ns touched =
    begun texts es e t b.deaf.items more tracks long false_all late u c (more_each t ks ns t u (none_more t sets) touched) (record { broken = broken ∙ fresh.broken; wide = wide ∙ fresh.wide }) deaf
