-- What is kept of the transactions before and after an entry is judged.
-- In the lemmas n is a number of a message or the place of a key, ns are numbers and ks their keys, r is a record, and t, u and v are tables, one after
-- another.
use Rattle.std.proofs.Common.{◌≡◌, ◌≢◌, ◌≤◌, ◌<◌, ◌+◌, ◌-◌, ◌⊎◌, inl, inr, ℕ, zero, suc, Bool, true, false, cond, Contains, map, slice_get, get_or, IfNone, Option, Some, None, List, [], ◌∷◌, ◌++◌, All, AllPairs, length, refl, sym, ap, ◌∙◌, subst, arith}
use Rattle.std.specs.Prelude.{fold, ◌==◌, take}
use Rattle.std.specs.Cmp.{unsigned_Decides}
use Rattle.std.proofs.lemmas.List.{take_more, take_all}
use Rattle.sip_states.proofs.lists.Listed.{Contains-here, Contains-there}
use Rattle.std.proofs.lemmas.Bool.{false≢true}
use Rattle.std.proofs.lemmas.Option.{same_Some, slice_get_within, get_or_from_slice_get}
use Rattle.std.proofs.lemmas.List.Elements.{All-nil, All-cons, All-weaker}
use Rattle.sip_standard.specs.Key.{KeyParts}
use Rattle.sip_standard.specs.Times.{Times, last_moment}
use Rattle.sip_standard.specs.declared.action.Action.TheVariants.{Restart}
use Rattle.sip_standard.specs.declared.kind.Kind.TheVariants.{Request}
use Rattle.sip_standard.specs.declared.kind.Method.TheVariants.{Other}
use Rattle.sip_machine.specs.Texts.{Texts, Keeps, text_of}
use Rattle.sip_machine.specs.NumberedEvent.{event_in, FitsBook, NumberedEvent}
use Rattle.sip_machine.specs.Rules.{Knows}
use Rattle.sip_machine.proofs.texts.TextLaws.{Keeps-grow, Keeps-grow_cases}
use Rattle.sip_standard.specs.KeyMachine.{machine_of_key, transaction_of}
use Rattle.sip_standard.specs.Stands.{Stands}
use Rattle.sip_states.specs.Meaning.{IsKnown}
use Rattle.sip_states.specs.AnySet.{IsKnownSet}
use Rattle.sip_states.specs.inner.KeySets.{meaning_of}
use Rattle.sip_states.specs.Tables.{Tabled, IsGiven}
use Rattle.sip_states.specs.declared.any_set.AnySet.{AnySet}
use Rattle.sip_standard.specs.LogEntry.{Item}
use Rattle.sip_verdict.specs.declared.concerned.Concerned.{Concerned}
use Rattle.sip_verdict.specs.declared.concerned.Concerned.TheVariants as concerned
use Rattle.sip_verdict.specs.declared.observing.Observed.{Observed}
use Rattle.sip_verdict.specs.declared.observing.Observed.TheVariants.{Unheard, Heard}
use Rattle.sip_verdict.specs.declared.observing.Observed.TheVariants as told
use Rattle.sip_standard.specs.declared.verdict.Verdict.{Verdict}
use Rattle.sip_standard.specs.Observation.{Observation}
use Rattle.sip_standard.specs.VerdictOf.{keys_in, Sees, events_for}
use Rattle.sip_verdict.specs.Entries.{newest_moment}
use Rattle.sip_verdict.specs.inner.Keyed as keyed
use Rattle.sip_verdict.specs.inner.Concerned.{each, is_all, up_to, listed}
use Rattle.sip_verdict.specs.inner.Observing.{IsObserved, restart_observation}
use Rattle.sip_verdict.specs.inner.Tracking.{IsReady, TracksBefore, IsJudged}
use Rattle.sip_verdict.specs.inner.TablesTracking.{key_keeping, transactions_of, TablesTrack, TablesTrackBefore, AreTold, TouchesEach, HaveNumbers, MayPass, MayHear, IsOnRecord, AreOnRecord, AllAreOnRecord, MayTake}
use Rattle.sip_verdict.proofs.keys.Leading.{Leads-grow}
use Rattle.sip_states.proofs.keyed.ByMachine.{seen_by_names_of, some_machine, of_set, to_set}
use Rattle.sip_verdict.proofs.tables.TrackingLemmas.{AreKept, kept_tracked, before_none, before_all, before_touched}
use Rattle.sip_verdict.proofs.tables.TablesTouching.{touches_times, touches_few, touches_recorded, kept_each, have_numbers, told_unheard, told_event, told_restart}
use Rattle.sip_verdict.proofs.tables.TablesPassing.{at_place, keys_are}

-- the book has the same messages, or one more at its end
abbrev pub IsGrown : Texts → ℕ → List ℕ → Texts → Type 0
IsGrown old number bytes new = (new ≡ old) ⊎ (new ≡ old ++ (number, bytes) ∷ [])

-- What follows is of a book, `old`, and of `new`, the same book with one message more, by its number and its bytes.
module _ (old new : Texts) (number : ℕ) (bytes : List ℕ) where
  -- a book that has grown keeps the messages that it kept
  grown_keeps : IsGrown old number bytes new → (n : ℕ) → Keeps old n → Keeps new n
  grown_keeps (inl same) n keeps = subst (λ texts. Keeps texts n) (sym same) keeps
  grown_keeps (inr more) n keeps = subst (λ texts. Keeps texts n) (sym more) (Keeps-grow old number bytes n keeps)

  -- a book that has grown knows the messages of the sets
  grown_known : IsGrown old number bytes new → (set : AnySet) → IsKnownSet old set → IsKnownSet new set
  grown_known grown set known =
      -- o.0 is the machine of the set, o.1 are its states as those of this machine, and names are the messages that a state names
      let o = some_machine set in
      let names = (meaning_of o.0).names in
      subst (IsKnownSet new) (sym o.2)
      -- each message that a state of the set names was kept in the old book, and so is in the new one
      (to_set (λ X M S m s. IsKnown m new s) o.0 o.1
      (All-weaker (Knows names old) (Knows names new) (λ x knows. All-weaker (Keeps old) (Keeps new) (grown_keeps grown) (names x) knows) o.1.states
      (of_set (λ X M S m s. IsKnown m old s) o.0 o.1 (subst (IsKnownSet old) o.2 known))))

  -- an entry that may pass beside a book may pass beside the book that has grown
  pub grown_may : IsGrown old number bytes new → (t : Tabled) (moment : ℕ) → MayPass old t moment → MayPass new t moment
  grown_may grown t moment may = record { order = may.order; known = All-weaker (IsKnownSet old) (IsKnownSet new) (grown_known grown) t.sets may.known; long = may.long }

  -- each number of a book that has grown is above 0
  -- the book is as before, or it has one message more, under `number`
  grown_some : IsGrown old number bytes new → 0 < number → ((n : ℕ) → Keeps old n → 0 < n) → (n : ℕ) → Keeps new n → 0 < n
  grown_some (inl same) some above n keeps = above n (subst (λ texts. Keeps texts n) same keeps)
  grown_some (inr more) some above n keeps = elim (Keeps-grow_cases old number bytes n (subst (λ texts. Keeps texts n) more keeps)) [ inl k ↦ above n k | inr e ↦ omega (arith, some, e) ]

  -- each number of a book that has grown by an entry's message is at most the entry's number
  grown_numbered : IsGrown old number bytes new → ((n : ℕ) → Keeps old n → n < number) → (n : ℕ) → Keeps new n → n < number + 1
  grown_numbered (inl same) below n keeps = let low = below n (subst (λ texts. Keeps texts n) same keeps) in omega arith
  grown_numbered (inr more) below n keeps = go (Keeps-grow_cases old number bytes n (subst (λ texts. Keeps texts n) more keeps))
    where
      -- each number that the book keeps is below the one after the newest
      go : Keeps old n ⊎ (number ≡ n) → n < number + 1
      go (inl k) = let low = below n k in omega arith
      go (inr e) = omega arith

  -- What follows is of transactions after the entries es by the times p.
  module _ (p : Times) (es : List (Observation KeyParts)) where
    -- a transaction that leads to its runs beside a book leads to them beside the book with one message more
    ready_more : (t : KeyParts × AnySet) → IsReady (key_keeping old p) es t → IsReady (key_keeping (old ++ (number, bytes) ∷ []) p) es t
    ready_more t (s, is, leads) =
        let machine = machine_of_key p.rules t.0 in
        let m = meaning_of machine in (
          s,
          is,
          -- the set has the same machine beside the new book, and its states name the same bytes
          record {
            machine_is = leads.machine_is;
            leads = Leads-grow m.names m.seen (seen_by_names_of machine) old number bytes (m.rules p) (Stands (transaction_of machine).figure p (events_for t.0 es)) (newest_moment es) s.moment s.states leads.leads;
          },
        )

    -- sets are ready beside a book that has grown
    grown_ready : IsGrown old number bytes new → (ts : List (KeyParts × AnySet)) → All (IsReady (key_keeping old p) es) ts → All (IsReady (key_keeping new p) es) ts
    grown_ready (inl same) ts ready = subst (λ texts. All (IsReady (key_keeping texts p) es) ts) (sym same) ready
    grown_ready (inr more) ts ready =
        subst (λ texts. All (IsReady (key_keeping texts p) es) ts) (sym more)
        (All-weaker (IsReady (key_keeping old p) es) (IsReady (key_keeping (old ++ (number, bytes) ∷ []) p) es) ready_more ts ready)

  -- tables that track the entries beside a book track them beside the grown book
  pub grown_track : IsGrown old number bytes new → (es : List (Observation KeyParts)) (t : Tabled) → TablesTrack old es t → TablesTrack new es t
  grown_track grown es t s = record { keys = s.keys; ready = grown_ready t.times es grown (transactions_of t) s.ready; good = s.good }

-- What follows is of the tables `old` and `new`, before and after the keys ks that an entry concerns were looked up; ns are their numbers.
module _ (ks : List KeyParts) (ns : List ℕ) (old new : Tabled) (touched : TouchesEach ks ns old new) where
  -- after the keys were looked up, each last moment is on record, except those of the transactions that the entry concerns
  pub touched_recorded : length old.sets ≡ length old.keys → AllAreOnRecord old → AreOnRecord ns new
  touched_recorded long recorded =
      touches_recorded ns ks ns old new (λ n waiting. waiting) long (record { long = recorded.long; each = λ n set r at here. waits_more n set r (recorded.each n set r at here) }) touched
    where
      -- a last moment that is on record is so, too, where those of the entry's keys may be missing
      -- no last moment is missing, where no set is still to hear
      waits_more : (n : ℕ) (set : AnySet) (r : Option (Option ℕ)) → IsOnRecord [] (n + 1) set r → IsOnRecord ns (n + 1) set r
      waits_more n set None h = absurd (false≢true h)
      waits_more n set (Some limit) h = h

  -- tables that follow the entries have, after the keys of the entry e were looked up, the keys of the entries and of e, and have not heard e yet
  pub touched_track : (texts : Texts) (es : List (Observation KeyParts)) (e : Observation KeyParts) → length old.sets ≡ length old.keys → e.keys ≡ ks → TablesTrack texts es old
      → TracksBefore old.times (key_keeping texts old.times) es e (transactions_of new)
  touched_track texts es e long keys s =
      let p = old.times in
      let k = key_keeping texts p in
      -- the keys are those of the entries and of e, and each set leads to its runs over the entries, as before
      before_touched p k es e (transactions_of new)
      (subst (λ xs. AreKept k es (fold keyed.with_key (keys_in es) xs) (transactions_of new)) (sym keys)
      (kept_each texts p es (keys_in es) ks ns old new refl long touched (kept_tracked k es p (transactions_of old) s))) s.good

-- an entry brings at most two keys
pub few_keys : (keys : Concerned KeyParts) (ns : List ℕ) (old new : Tabled) → TouchesEach (each keys) ns old new → length new.keys ≤ length old.keys + 2
few_keys keys ns old new touched = let more = touches_few (each keys) ns old new touched in let few = at_most_two keys in omega arith
  where
    -- an entry concerns at most two keys
    at_most_two : (c : Concerned KeyParts) → length (each c) ≤ 2
    at_most_two concerned.None = omega arith
    at_most_two (concerned.Own own) = omega arith
    at_most_two (concerned.OwnAndCancelled own cancelled) = omega arith
    at_most_two concerned.All = omega arith

-- the book has no bytes under a number that it does not keep
pub text_of_none : (texts : Texts) (n : ℕ) → ¬ Keeps texts n → text_of texts n ≡ []
text_of_none [] n none = refl
text_of_none (kept ∷ texts) n none = go (kept.0 == n) refl (text_of_none texts n (λ has. none (Contains-there kept.0 (map (λ k. k.0) texts) n has)))
  where
    -- a number that the book does not keep has no text, whether or not the first message has the number
    -- if the first message had the number, the book would keep it
    go : (b : Bool) → (kept.0 == n) ≡ b → text_of texts n ≡ [] → cond b kept.1 (text_of texts n) ≡ []
    go true same rest = absurd (none (subst (Contains (map (λ k. k.0) (kept ∷ texts))) ((unsigned_Decides kept.0 n).0 same) (Contains-here kept.0 (map (λ k. k.0) texts))))
    go false differ rest = rest

-- where an entry does not concern all, those that it names are listed
-- each case but that of all has the same list by both
pub listed_each : (count : ℕ) (numbers : Concerned ℕ) → is_all numbers ≡ false → listed count numbers ≡ each numbers
listed_each count concerned.None some = refl
listed_each count (concerned.Own own) some = refl
listed_each count (concerned.OwnAndCancelled own cancelled) some = refl
listed_each count concerned.All some = absurd (false≢true (sym some))

-- numbers of keys stay numbers of these keys when one number and its key are put after them
-- ns are the numbers of the keys ks among all keys, and n is the number of k
have_more : (all : List KeyParts) (ns : List ℕ) (ks : List KeyParts) (n : ℕ) (k : KeyParts) → HaveNumbers all ns ks → 0 < n → slice_get all (n - 1) ≡ Some k → HaveNumbers all (ns ++ n ∷ []) (ks ++ k ∷ [])
have_more all [] [] n k have low at = (low, at, tt)
-- there are as many numbers as keys
have_more all [] (key ∷ ks) n k have low at = absurd have
have_more all (m ∷ ns) [] n k have low at = absurd have
have_more all (m ∷ ns) (key ∷ ks) n k (some, there, rest) low at = (some, there, have_more all ns ks n k rest low at)

-- the numbers up to the count of all keys are the numbers of all keys
pub have_all : (all : List KeyParts) → HaveNumbers all (up_to (length all)) all
have_all all = subst (HaveNumbers all (up_to (length all))) (take_all (length all) all (omega arith)) (front (length all) (omega arith))
  where
    -- the first n keys have the numbers up to n
    front : (n : ℕ) → n ≤ length all → HaveNumbers all (up_to n) (take n all)
    front zero low = tt
    front (suc n) low =
        -- the last of the numbers is that of the key there
        let key = at_place all n (omega (arith, low)) in
        let before : suc n - 1 ≡ n = omega arith in
        let more : suc n ≡ n + 1 = omega arith in
        subst (HaveNumbers all (up_to (suc n))) (sym (ap (λ k. take k all) more ∙ take_more all n key.0 (omega (arith, low)) ∙ ap (λ k. take n all ++ k ∷ []) (get_or_from_slice_get all n key.0 key.0 key.1)))
        (have_more all (up_to n) (take n all) (suc n) key.0 (front n (omega (arith, low))) (omega arith) (ap (slice_get all) before ∙ key.1))

-- after an entry without trouble the next entry may be taken, by the tables and the book that the entry leaves
-- the book is `old`, then `mid` with the entry's message, then `last`; t, u and v are the tables with each
-- without trouble the numbers of the book and the limits are as the next entry asks; with a verdict nothing is asked
pub may_next : (verdict : Option Verdict) (old mid last : Texts) (t u v : Tabled) (number moment : ℕ) (bytes : List ℕ) → MayTake old t number moment → IsGrown old number bytes mid
    → length u.keys ≤ length t.keys + 2 → v.keys ≡ u.keys → last ≡ mid → MayPass last v moment → IfNone verdict (AllAreOnRecord v) → IfNone verdict (MayTake last v (number + 1) moment)
may_next None old mid last t u v number moment bytes may grown few keys book passes recorded = record {
  passes = passes;
  recorded = recorded;
  numbered = λ n keeps. grown_numbered old mid number bytes grown may.numbered n (subst (λ texts. Keeps texts n) book keeps);
  some = λ n keeps. grown_some old mid number bytes grown (omega (arith, may.few)) may.some n (subst (λ texts. Keeps texts n) book keeps);
  few = omega (arith, may.few, ap length keys, few);
}
may_next (Some x) old mid last t u v number moment bytes may grown few keys book passes recorded = tt

-- numbers under which keys stand in the tables were given
-- ns are the numbers of the keys ks in the tables t
pub are_given : (t : Tabled) (ns : List ℕ) (ks : List KeyParts) → HaveNumbers t.keys ns ks → All (IsGiven t) ns
are_given t [] ks h = All-nil (IsGiven t)
-- there are as many numbers as keys
are_given t (n ∷ ns) [] h = absurd h
are_given t (n ∷ ns) (k ∷ ks) (low, at, rest) =
    All-cons (IsGiven t) n ns (let within = slice_get_within t.keys (n - 1) k at in record { low = low; high = omega arith }) (are_given t ns ks rest)

-- What follows is of one entry i that is judged: old, mid and last are the book before it, with its message, and after it.
module _ (verdict : Option Verdict) (old mid last : Texts) (number : ℕ) (bytes : List ℕ) (grown : IsGrown old number bytes mid) (i : Item) (moment count : ℕ) where
  -- the judge is told this of the entry, and whatever entries come before it, what is observed of it agrees with that
  abbrev Tells : Observed → Type 0
  Tells told = (es : List (Observation KeyParts)) → (e : Observation KeyParts) × Sees es i e × IsObserved mid es i told e

  -- an entry that no transaction hears is judged as what is observed of it
  -- `judged` is what the passing promises: after any entries es, an observation e that agrees with what was told is judged rightly
  pub unheard_judged : (t v : Tabled) → i.moment ≡ moment → Tells Unheard
      → ((es : List (Observation KeyParts)) (e : Observation KeyParts) → e.fault ≡ None → newest_moment es ≤ moment → AreTold mid t.keys moment None e → TablesTrackBefore mid es e t → count ≡ length es + 1
      → IsJudged t.times (key_keeping last t.times) es e (transactions_of v) verdict)
      → (es : List (Observation KeyParts)) → TablesTrack old es t → count ≡ length es + 1 → newest_moment es ≤ moment
      → (e : Observation KeyParts) × Sees es i e × IsJudged t.times (key_keeping last t.times) es e (transactions_of v) verdict × HaveNumbers v.keys [] e.keys
  -- e is what is observed of the entry, which has no fault
  unheard_judged t v at tells judged es tracks counts newest =
      let (e, seen, (fine, e_at, none)) = tells es in (
        e,
        seen,
        judged es e fine newest (told_unheard mid t.keys moment e (e_at ∙ at) none)
            (before_none t.times (key_keeping mid t.times) es e (transactions_of t) none (grown_track old mid number bytes grown es t tracks)) counts,
        subst (HaveNumbers v.keys []) (sym none) tt,
      )

  -- a message that transactions hear is judged as what is observed of it, with the keys that it concerns
  -- t are the tables before, u those with the entry's keys looked up, and v those after the event
  -- mid is the book with the message of the entry, last the book that is kept in the end, and i the item of the entry
  -- `judged` is what the passing promises: after any entries es, an observation e that agrees with what was told is judged rightly
  pub heard_judged : (event : NumberedEvent) (concerned : Concerned KeyParts) (numbers : Concerned ℕ) (t u v : Tabled) → length t.sets ≡ length t.keys → TouchesEach (each concerned) (each numbers) t u
      → AllPairs (λ a b. a ≢ b) u.keys → v.keys ≡ u.keys → event.moment ≡ moment → is_all numbers ≡ false
      → Tells (Heard event concerned)
      → ((es : List (Observation KeyParts)) (e : Observation KeyParts) → e.fault ≡ None → newest_moment es ≤ moment
      → AreTold mid u.keys moment (Some (record { event = event; concerned = numbers })) e → TablesTrackBefore mid es e u → count ≡ length es + 1
      → IsJudged u.times (key_keeping last u.times) es e (transactions_of v) verdict)
      → (es : List (Observation KeyParts)) → TablesTrack old es t → count ≡ length es + 1 → newest_moment es ≤ moment
      → (e : Observation KeyParts) × Sees es i e × IsJudged t.times (key_keeping last t.times) es e (transactions_of v) verdict × HaveNumbers v.keys (each numbers) e.keys
  -- the entry has no fault, and concerns these keys
  heard_judged event concerned numbers t u v long touched apart keys at some tells judged es tracks counts newest = (
    -- `seen` is what is observed of the message: each key that it concerns has its number, and is told the event
    seen,
    (let (e, observed, is) = tells es in subst (Sees es i) is observed),
    subst (λ p. IsJudged p (key_keeping last p) es seen (transactions_of v) verdict) times
        (judged es seen refl newest (told_event mid u.keys moment (record { event = event; concerned = numbers }) seen apart some have at refl)
        (subst (λ p. TracksBefore p (key_keeping mid p) es seen (transactions_of u)) (sym times)
        (touched_track (each concerned) (each numbers) t u touched mid es seen long refl (grown_track old mid number bytes grown es t tracks))) counts),
    -- the keys have these numbers after the event too
    subst (λ all. HaveNumbers all (each numbers) (each concerned)) (sym keys) have,
  )
    where
      -- what is observed of the message
      seen : Observation KeyParts
      seen = record { fault = None; event = event_in mid event; keys = each concerned }

      -- looking up keys leaves the times
      times : u.times ≡ t.times
      times = touches_times (each concerned) (each numbers) t u touched

      -- the keys that the entry concerns have these numbers
      have : HaveNumbers u.keys (each numbers) (each concerned)
      have = have_numbers (each concerned) (each numbers) t u touched

  -- a restart is judged as what is observed of it, with all keys so far
  -- t and v are the tables before and after the restart
  -- `judged` is what the passing promises: after any entries es, an observation e that agrees with what was told is judged rightly
  pub restart_judged : (event : NumberedEvent) (t v : Tabled) → length t.sets ≡ length t.keys → AllPairs (λ a b. a ≢ b) t.keys → v.keys ≡ t.keys
      → event ≡ record { moment = moment; action = Restart; number = 0; kind = Request Other; reliable = false } → ((n : ℕ) → Keeps mid n → 0 < n) → i.moment ≡ moment
      → Tells told.Restart
      → ((es : List (Observation KeyParts)) (e : Observation KeyParts) → e.fault ≡ None → newest_moment es ≤ moment
      → AreTold mid t.keys moment (Some (record { event = event; concerned = concerned.All })) e → TablesTrackBefore mid es e t → count ≡ length es + 1
      → IsJudged t.times (key_keeping last t.times) es e (transactions_of v) verdict)
      → (es : List (Observation KeyParts)) → TablesTrack old es t → count ≡ length es + 1 → newest_moment es ≤ moment
      → (e : Observation KeyParts) × Sees es i e × IsJudged t.times (key_keeping last t.times) es e (transactions_of v) verdict × HaveNumbers v.keys (up_to (length v.keys)) e.keys
  restart_judged event t v long apart same is above at tells judged es tracks counts newest =
      -- e is what is observed of the restart, with all keys
      let (e, seen, e_is) = tells es in
      let keys : e.keys ≡ t.keys = ap (λ x. x.keys) e_is ∙ sym (sym (keys_are t long) ∙ tracks.keys) in
      -- a restart has no message, and the book has none under 0
      let silent : [] ≡ text_of mid 0 = sym (text_of_none mid 0 (λ keeps. (let low = above 0 keeps in omega (arith, low)))) in
      let heard : e.event ≡ event_in mid event =
      ap (λ x. x.event) e_is ∙ ap (λ n. (restart_observation n []).event) at
      ∙ ap (λ text. record { moment = moment; action = Restart; text = text; kind = Request Other; reliable = false }) silent ∙ sym (ap (event_in mid) is) in
      -- all keys hear the restart
      let here : e.event.moment ≡ moment = ap (λ x. x.moment) heard ∙ ap (λ x. x.moment) is in (
        e,
        seen,
        judged es e (ap (λ x. x.fault) e_is) newest (told_restart mid t.keys moment (record { event = event; concerned = concerned.All }) e refl keys here heard)
            (before_all t.times (key_keeping mid t.times) es e (transactions_of t) (ap (λ x. x.keys) e_is) (grown_track old mid number bytes grown es t tracks)) counts,
        subst (λ ks. HaveNumbers v.keys (up_to (length v.keys)) ks) (same ∙ sym keys) (have_all v.keys),
      )

-- the number at a place of the numbers stands for the key at the same place of the keys
-- ns are the numbers of the keys ks among all keys, i is the place, and k the key there; d stands for no number
-- no place is in an empty list, and there are as many numbers as keys; the place is the first or a later one
number_at : (all : List KeyParts) (ns : List ℕ) (ks : List KeyParts) → HaveNumbers all ns ks → (i d : ℕ) → i < length ns → (k : KeyParts) × (slice_get ks i ≡ Some k) × (slice_get all (get_or ns i d - 1) ≡ Some k)
number_at all [] ks h i d low = absurd (omega arith)
number_at all (n ∷ ns) [] h i d low = absurd h
number_at all (n ∷ ns) (k ∷ ks) h zero d low = (k, refl, h.1)
number_at all (n ∷ ns) (k ∷ ks) h (suc i) d low = number_at all ns ks h.2 i d (omega arith)

-- where keys all differ, their numbers all differ
numbers_differ : (all : List KeyParts) (ns : List ℕ) (ks : List KeyParts) → HaveNumbers all ns ks → AllPairs (λ a b. a ≢ b) ks → AllPairs (λ a b. a ≢ b) ns
numbers_differ all ns ks have apart i j d less low same =
    let (a, a_at, a_there) = number_at all ns ks have i d (omega arith) in
    let (b, b_at, b_there) = number_at all ns ks have j d low in
    let both : Some a ≡ Some b = sym a_there ∙ ap (λ n. slice_get all (n - 1)) same ∙ b_there in
    apart i j a less (slice_get_within ks j b b_at) (get_or_from_slice_get ks i a a a_at ∙ same_Some a b both ∙ sym (get_or_from_slice_get ks j b a b_at))

-- an event may be heard under the numbers of the keys that it concerns, once these were looked up
pub may_hear : (texts : Texts) (moment : ℕ) (event : NumberedEvent) (concerned : Concerned KeyParts) (numbers : Concerned ℕ) (t u : Tabled) → TouchesEach (each concerned) (each numbers) t u → FitsBook texts event
    → event.moment ≡ moment → AllPairs (λ a b. a ≢ b) (each concerned) → is_all numbers ≡ false → MayHear texts u moment (record { event = event; concerned = numbers })
may_hear texts moment event concerned numbers t u touched fits at differ some =
    -- the keys have these numbers, which are given, and which differ since the keys do; and the event is not one for all
    let have = have_numbers (each concerned) (each numbers) t u touched in
    record { fits = fits; at = at; given = are_given u (each numbers) (each concerned) have; apart = numbers_differ u.keys (each numbers) (each concerned) have differ; restart = λ all. absurd (false≢true (sym some ∙ all)) }

-- a restart may be heard by all transactions
pub may_restart : (texts : Texts) (moment : ℕ) (event : NumberedEvent) (t : Tabled) → event ≡ record { moment = moment; action = Restart; number = 0; kind = Request Other; reliable = false } → moment ≤ last_moment
    → MayHear texts t moment (record { event = event; concerned = concerned.All })
may_restart texts moment event t is limit = subst (λ e. MayHear texts t moment (record { event = e; concerned = concerned.All })) (sym is) (record {
  -- a restart has no message, and names no transaction by its number, since it concerns all
  fits = record { keeps = λ other. absurd (other refl); limit = limit };
  at = refl;
  given = All-nil (IsGiven t);
  apart = λ i j d less low. absurd (omega (arith, low));
  restart = λ all. refl;
})
