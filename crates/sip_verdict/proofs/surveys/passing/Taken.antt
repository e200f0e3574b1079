-- What the transactions of a survey are after an entry of each kind.
-- Where a lemma looks at one transaction, n is the place of its key, s its set, and d whether it is deaf.
use Rattle.std.proofs.Common.{◌≡◌, ◌≢◌, ◌≤◌, ◌<◌, ◌+◌, inl, inr, ℕ, Bool, true, false, Option, Some, None, List, [], ◌∷◌, ◌++◌, All, AllPairs, Contains, length, slice_get, refl, sym, ap, ◌∙◌, subst, true≢false, arith}
use Rattle.std.specs.Prelude.{fold}
use Rattle.std.proofs.Math.Decide.{dec_le}
use Rattle.sip_standard.specs.declared.action.Action.TheVariants.{Restart}
use Rattle.sip_standard.specs.declared.kind.Kind.TheVariants.{Request}
use Rattle.sip_standard.specs.declared.kind.Method.TheVariants.{Other}
use Rattle.sip_standard.specs.Key.{KeyParts}
use Rattle.sip_standard.specs.Times.{Times}
use Rattle.sip_machine.specs.Texts.{Texts, Keeps, text_of}
use Rattle.sip_machine.specs.NumberedEvent.{NumberedEvent, event_in}
use Rattle.sip_standard.specs.MachineEvent.{MachineEvent}
use Rattle.sip_standard.specs.KeyMachine.{MachineKind, machine_of_key, transaction_of}
use Rattle.sip_standard.specs.Stands.{Stands}
use Rattle.sip_states.specs.inner.KeySets.{meaning_of}
use Rattle.sip_states.specs.Sweep.{numbers_of}
use Rattle.sip_states.specs.Tables.{Tabled}
use Rattle.sip_states.specs.declared.any_set.AnySet.{AnySet}
use Rattle.sip_states.proofs.keyed.ByMachine.{seen_by_names_of}
use Rattle.sip_standard.specs.LogEntry.{Item}
use Rattle.sip_standard.specs.declared.fault.Fault.{Fault}
use Rattle.sip_verdict.specs.declared.concerned.Concerned.{Concerned}
use Rattle.sip_verdict.specs.declared.concerned.Concerned.TheVariants as concerned
use Rattle.sip_verdict.specs.declared.observing.Observed.{Observed}
use Rattle.sip_verdict.specs.declared.observing.Observed.TheVariants as told
use Rattle.sip_verdict.specs.declared.passing.Hearing.{Hearing}
use Rattle.sip_verdict.specs.declared.troubled.Troubled.{Troubled}
use Rattle.sip_standard.specs.Observation.{Observation}
use Rattle.sip_verdict.specs.Entries.{newest_moment}
use Rattle.sip_verdict.specs.inner.Keyed.{with_key}
use Rattle.sip_standard.specs.VerdictOf.{events_for, keys_in, Sees}
use Rattle.sip_verdict.specs.inner.Concerned.{each, is_all}
use Rattle.sip_verdict.specs.inner.Observing.{IsObserved, restart_observation}
use Rattle.sip_verdict.specs.inner.TablesTracking.{LeadsOf, is_among, AreTold, DropsUnnamed, TouchesEach}
use Rattle.sip_verdict.specs.inner.Surveying.{AreWatched, IsFresh, IsFollowed, TablesSurvey, IsPassing, ArePassing, any}
use Rattle.sip_verdict.proofs.keys.Keys.{keys_in-push, keys_in-none, keys_in-all}
use Rattle.sip_verdict.proofs.keys.Leading.{Leads-grow}
use Rattle.sip_verdict.proofs.judges.StandingLemmas.{IsGrown, text_of_none, touched_recorded}
use Rattle.sip_verdict.proofs.sweeps.NewestLemmas.{unnamed_leads, unnamed_stands}
use Rattle.sip_verdict.proofs.tables.TablesPassing.{All-place}
use Rattle.sip_verdict.proofs.tables.TablesTouching.{touches_elim, touches_times, have_numbers, slice_get-more, told_unheard, told_event, told_restart}
use Rattle.sip_verdict.proofs.surveys.passing.Begun.{begun_same, begun_touched, touched_keys, front_place, back_place}

-- What follows shows that a set leads to the same runs beside the book `old` and beside `new`, which has one message more, by its number and its bytes.
module _ (old new : Texts) (number : ℕ) (bytes : List ℕ) (p : Times) where
  -- a set of a machine leads to the same runs beside the book that has grown
  grown_leads : IsGrown old number bytes new → (machine : MachineKind) (events : List MachineEvent) (from : ℕ) (set : AnySet) → LeadsOf old p machine events from set → LeadsOf new p machine events from set
  -- the book has not grown
  grown_leads (inl same) machine events from set leads = subst (λ texts. LeadsOf texts p machine events from set) (sym same) leads
  -- the book has one message more: the set's states name messages of the old book, which stand under the same numbers in the new one
  grown_leads (inr more) machine events from set (s, is, leads) =
      let m = meaning_of machine in
      subst (λ texts. LeadsOf texts p machine events from set) (sym more) (
        s,
        is,
        record { machine_is = leads.machine_is; leads = Leads-grow m.names m.seen (seen_by_names_of machine) old number bytes (m.rules p) (Stands (transaction_of machine).figure p events) from s.moment s.states leads.leads },
      )

-- tables survey the same entries beside a book with one message more
pub grown_survey : (old new : Texts) (number : ℕ) (bytes : List ℕ) → IsGrown old number bytes new → (es : List (Observation KeyParts)) (t : Tabled) (deaf : List Bool) → TablesSurvey old es t deaf → TablesSurvey new es t deaf
grown_survey old new number bytes grown es t deaf h = record { order = h.order; keys = h.keys; each = λ n key s d at here is. by key s d (h.each n key s d at here is) }
  where
    -- a deaf transaction stays in trouble, and the set of any other one follows the same entries
    -- the set of a deaf transaction leads to the runs over no event
    by : (key : KeyParts) (s : AnySet) (d : Bool) → IsFollowed old t.times es key s d → IsFollowed new t.times es key s d
    by key s true (leads, unsound) = (grown_leads old new number bytes t.times grown (machine_of_key t.times.rules key) [] (newest_moment es) s leads, unsound)
    by key s false (leads, sound) = (grown_leads old new number bytes t.times grown (machine_of_key t.times.rules key) _ (newest_moment es) s leads, sound)

-- the item is seen as an entry with this fault and this moment, the tables have its keys too, and each transaction has passed it
abbrev pub IsTaken : Texts → Times → List (Observation KeyParts) → Item → ℕ → Option Fault → Tabled → Troubled → Type 0
IsTaken texts p es i moment fault t b =
    (e : Observation KeyParts) × Sees es i e × (e.fault ≡ fault) × (e.event.moment ≡ moment) × (t.keys ≡ keys_in (es ++ e ∷ [])) × ArePassing texts p es e (is_among []) t b

-- passing takes transactions that are all still to hear an entry of which this is told to ones that have all heard it
abbrev pub Passes : Texts → ℕ → Option Hearing → Tabled → Troubled → Tabled → Troubled → Type 0
Passes texts moment hearing t b u c =
    (p : Times) (es : List (Observation KeyParts)) (e : Observation KeyParts) → t.times ≡ p → newest_moment es ≤ moment → e.event.moment ≡ moment → AreTold texts t.keys moment hearing e
    → ArePassing texts p es e any t b → ArePassing texts p es e (is_among []) u c

-- What follows is of one item i of a log: `old` is the book before it, and `mid` the book after it was observed.
module _ (old mid : Texts) (number : ℕ) (bytes : List ℕ) (grown : IsGrown old number bytes mid) (i : Item) (moment : ℕ) (at : i.moment ≡ moment) where
  -- the judge is told this of the item, and whatever entries come before it, what is observed of it agrees with that
  abbrev Tells : Observed → Type 0
  Tells told = (es : List (Observation KeyParts)) → (e : Observation KeyParts) × Sees es i e × IsObserved mid es i told e

  -- What follows is of an item that brings no key: before it the tables are t, and b says which transactions are in trouble; after it they are u and c.
  module _ (t u : Tabled) (b c : Troubled) (long : length b.deaf.items ≡ length t.keys) (sets : length t.sets ≡ length t.keys) (fresh : IsFresh b) (keys : u.keys ≡ t.keys) where
    -- an entry that concerns no transaction is taken
    silent_taken : (es : List (Observation KeyParts)) (e : Observation KeyParts) (fault : Option Fault) → Sees es i e → e.fault ≡ fault → e.event.moment ≡ moment → e.keys ≡ [] → Passes mid moment None t b u c
        → TablesSurvey old es t b.deaf.items → newest_moment es ≤ moment → IsTaken mid t.times es i moment fault u c
    silent_taken es e fault seen fault_is now none passes tracks late = (
      e,
      seen,
      fault_is,
      now,
      -- the keys are those before, and each transaction passes the entry
      keys ∙ tracks.keys ∙ sym (keys_in-none es e none),
      passes t.times es e refl late now (told_unheard mid t.keys moment e now none)
          (begun_same mid es e t b (grown_survey old mid number bytes grown es t b.deaf.items tracks) long sets (subst (λ n. newest_moment es ≤ n) (sym now) late) fresh),
    )

    -- an entry that no transaction hears is taken
    pub unheard_taken : Tells told.Unheard → Passes mid moment None t b u c → (es : List (Observation KeyParts)) → TablesSurvey old es t b.deaf.items → newest_moment es ≤ moment → IsTaken mid t.times es i moment None u c
    unheard_taken tells passes es tracks late =
        let (e, seen, (fine, e_at, none)) = tells es in
        silent_taken es e None seen fine (e_at ∙ at) none passes tracks late

    -- an entry whose message has a fault is taken
    pub fault_taken : (fault : Fault) → Tells (told.Fault fault) → Passes mid moment None t b u c → (es : List (Observation KeyParts)) → TablesSurvey old es t b.deaf.items → newest_moment es ≤ moment
        → IsTaken mid t.times es i moment (Some fault) u c
    fault_taken fault tells passes es tracks late =
        let (e, seen, is) = tells es in
        silent_taken es e (Some fault) seen (ap (λ x. x.fault) is) (ap (λ x. x.event.moment) is ∙ at) (ap (λ x. x.keys) is) passes tracks late

    -- a restart is taken
    pub restart_taken : (event : NumberedEvent) → event ≡ record { moment = moment; action = Restart; number = 0; kind = Request Other; reliable = false } → ((n : ℕ) → Keeps mid n → 0 < n) → Tells told.Restart
        → Passes mid moment (Some (record { event = event; concerned = concerned.All })) t b u c → (es : List (Observation KeyParts)) → TablesSurvey old es t b.deaf.items → newest_moment es ≤ moment
        → IsTaken mid t.times es i moment None u c
    restart_taken event is above tells passes es tracks late =
        let (e, seen, e_is) = tells es in
        let all : e.keys ≡ keys_in es = ap (λ x. x.keys) e_is in
        -- a restart has no message, and the book has none under 0
        let silent : [] ≡ text_of mid 0 = sym (text_of_none mid 0 (λ keeps. (let low = above 0 keeps in omega (arith, low)))) in
        let heard : e.event ≡ event_in mid event =
        ap (λ x. x.event) e_is ∙ ap (λ n. (restart_observation n []).event) at
        ∙ ap (λ text. record { moment = moment; action = Restart; text = text; kind = Request Other; reliable = false }) silent ∙ sym (ap (event_in mid) is) in
        -- the restart has no fault, concerns all keys, and each transaction passes it
        let now : e.event.moment ≡ moment = ap (λ x. x.moment) heard ∙ ap (λ x. x.moment) is in (
          e,
          seen,
          ap (λ x. x.fault) e_is,
          now,
          keys ∙ tracks.keys ∙ sym (keys_in-all es e all),
          passes t.times es e refl late now (told_restart mid t.keys moment (record { event = event; concerned = concerned.All }) e refl (all ∙ sym tracks.keys) now heard)
              (begun_same mid es e t b (grown_survey old mid number bytes grown es t b.deaf.items tracks) long sets (subst (λ n. newest_moment es ≤ n) (sym now) late) fresh),
        )

  -- a message that transactions hear is taken
  -- t and b are the tables and the trouble before the entry, w and d those after its keys were looked up, and u and c those after the event was heard
  pub heard_taken : (event : NumberedEvent) (concerned : Concerned KeyParts) (numbers : Concerned ℕ) (t w u : Tabled) (b d c : Troubled) (more : List Bool) → length b.deaf.items ≡ length t.keys → length t.sets ≡ length t.keys → IsFresh b
      → d.deaf.items ≡ b.deaf.items ++ more → All (λ x. x ≡ false) more → d.broken.items ≡ b.broken.items → d.wide.items ≡ b.wide.items
      → TouchesEach (each concerned) (each numbers) t w → AllPairs (λ x y. x ≢ y) w.keys → u.keys ≡ w.keys → event.moment ≡ moment → is_all numbers ≡ false → Tells (told.Heard event concerned)
      → Passes mid moment (Some (record { event = event; concerned = numbers })) w d u c → (es : List (Observation KeyParts)) → TablesSurvey old es t b.deaf.items → newest_moment es ≤ moment
      → IsTaken mid t.times es i moment None u c
  heard_taken event concerned numbers t w u b d c more long sets fresh deaf false_all broken wide touched apart keys now some tells passes es tracks late =
      -- the tables have the keys of the entry, and the same times
      let have = have_numbers (each concerned) (each numbers) t w touched in
      let times = touches_times (each concerned) (each numbers) t w touched in (
        seen,
        (let (e, observed, is) = tells es in subst (Sees es i) is observed),
        refl,
        now,
        -- the keys are those before with those of the entry, and each transaction passes it
        keys ∙ touched_keys (each concerned) (each numbers) t w touched ∙ ap (λ ks. fold with_key ks (each concerned)) tracks.keys ∙ sym (keys_in-push es seen),
        passes t.times es seen times late now (told_event mid w.keys moment (record { event = event; concerned = numbers }) seen apart some have now refl)
            (begun_touched mid es seen t w b d more (grown_survey old mid number bytes grown es t b.deaf.items tracks) long sets (subst (λ n. newest_moment es ≤ n) (sym now) late) fresh deaf false_all broken wide
            (each concerned) (each numbers) touched),
      )
    where
      -- what is observed of the message
      seen : Observation KeyParts
      seen = record { fault = None; event = event_in mid event; keys = each concerned }

-- each transaction has passed an entry as before, where a message that no set names was dropped after it
pub dropped_passing : (number : ℕ) (before new : Texts) (p : Times) (es : List (Observation KeyParts)) (e : Observation KeyParts) (t : Tabled) (b : Troubled) → DropsUnnamed t.sets number before new
    → ArePassing before p es e (is_among []) t b → ArePassing new p es e (is_among []) t b
dropped_passing number before new p es e t b (inl same) h = subst (λ texts. ArePassing texts p es e (is_among []) t b) (sym same) h
-- no transaction is newly in trouble, and each set leads to its runs beside the smaller book
dropped_passing number before new p es e t b (inr (bytes, is, unnamed)) h =
    let passing = subst (λ texts. ArePassing texts p es e (is_among []) t b) is h in
    record {
      broken = passing.broken;
      wide = passing.wide;
      each = λ n key s d at here deaf. by n key s d (All-place (λ set. ¬ Contains (numbers_of set) number) t.sets n s here unnamed) (passing.each n key s d at here deaf);
    }
  where
    -- a transaction passes the entry beside the book without the dropped message too, since its set does not name that message
    -- n is the place of the key, s its set and d whether it is deaf
    by : (n : ℕ) (key : KeyParts) (s : AnySet) (d : Bool) → ¬ Contains (numbers_of s) number → IsPassing (new ++ (number, bytes) ∷ []) p es e (is_among []) b (n + 1) key s d
        → IsPassing new p es e (is_among []) b (n + 1) key s d
    by n key s true none (leads, why) = (unnamed_leads number bytes new p (machine_of_key p.rules key) [] e.event.moment s none leads, why)
    -- a transaction in no trouble goes on
    by n key s false none (sound, goes) = (
      sound,
      record {
        runs = goes.runs;
        narrow = goes.narrow;
        -- its set leads to the same runs, and stands for the same last states, beside the book without the message
        ready = unnamed_leads number bytes new p (machine_of_key p.rules key) (events_for key (es ++ e ∷ [])) (newest_moment (es ++ e ∷ [])) s none goes.ready;
        stands = λ concerned. unnamed_stands number bytes new p (machine_of_key p.rules key) (events_for key es) e.event s none (goes.stands concerned);
      },
    )

-- after keys were looked up, each last moment is on record, except those of the keys, which are to hear the event
-- ns are the numbers of the keys ks; t and b are the tables and the trouble before these were looked up, and w and d those after
pub watched_touched : (ks : List KeyParts) (ns : List ℕ) (t w : Tabled) (b d : Troubled) (more : List Bool) → TouchesEach ks ns t w → length t.sets ≡ length t.keys → AreWatched [] t b
    → d.deaf.items ≡ b.deaf.items ++ more → All (λ x. x ≡ false) more → length d.deaf.items ≡ length w.keys → AreWatched ns w d
watched_touched ks ns t w b d more touched sets h deaf false_all long = record {
  long = long;
  recorded = touched_recorded ks ns t w touched sets h.recorded;
  silent = λ n is. by n (ap (λ ds. slice_get ds n) (sym deaf) ∙ is) (dec_le (length b.deaf.items) n);
}
  where
    -- the record of a transaction in trouble says that it has no last moment: only an old transaction is in trouble, since new ones are in none
    by : (n : ℕ) → slice_get (b.deaf.items ++ more) n ≡ Some true → Dec (length b.deaf.items ≤ n) → slice_get w.records n ≡ Some (Some None)
    -- the place is that of a new transaction, and each new flag says that it is in no trouble
    by n is (yes low) = absurd (true≢false (back_place (λ x. x ≡ false) b.deaf.items more n true low false_all is))
    -- the place is that of an old one, whose record stays where it is as new ones are put after it
    by n is (no high) =
        touches_elim (λ x. slice_get x.records n ≡ Some (Some None)) (λ x key at. slice_get-more x.records (None ∷ []) n (Some None) at) ks ns t w
        (h.silent n (front_place b.deaf.items more n true (omega (arith, high)) is)) touched
