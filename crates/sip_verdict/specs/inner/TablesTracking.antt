-- What is kept of the transactions of a log: the set of each key, by the machine of the key.
use Rattle.std.specs.Prelude.{◌≡◌, ◌≢◌, ◌||◌, ◌≤◌, ◌<◌, ◌+◌, ◌-◌, ◌⊎◌, ◌++◌, [], ◌∷◌, ℕ, nat_eq, Bool, true, false, Option, Some, None, List, All, AllPairs, Any, Contains, IfSome, length, slice_get, ⊤}
use Rattle.std.specs.List.{zip, list_any}
use Rattle.sip_standard.specs.Key.{KeyParts}
use Rattle.sip_standard.specs.Times.{Times}
use Rattle.sip_machine.specs.Texts.{Texts, Keeps}
use Rattle.sip_machine.specs.NumberedEvent.{NumberedEvent, event_in, FitsBook}
use Rattle.sip_standard.specs.MachineEvent.{MachineEvent}
use Rattle.sip_machine.specs.Rules.{StandFor}
use Rattle.sip_states.specs.Held.{Held}
use Rattle.sip_standard.specs.KeyMachine.{MachineKind, machine_of_key, transaction_of}
use Rattle.sip_standard.specs.Stands.{Stands, StandsAfter}
use Rattle.sip_states.specs.inner.KeySets.{CodeOwingOf, set_of, meaning_of}
use Rattle.sip_states.specs.Meaning.{Meaning}
use Rattle.sip_states.specs.AnySet.{moment_of, IsKnownSet, IsQuietSet, IsAgendaOf}
use Rattle.sip_states.specs.Sweep.{SetMayName, numbers_of}
use Rattle.sip_states.specs.Tables.{Tabled, IsGiven, Touches, with_set, with_record}
use Rattle.sip_states.specs.declared.any_set.AnySet.{AnySet}
use Rattle.sip_standard.specs.declared.action.Action.TheVariants.{Restart}
use Rattle.sip_verdict.specs.declared.concerned.Concerned.{Concerned}
use Rattle.sip_verdict.specs.declared.passing.Hearing.{Hearing}
use Rattle.sip_verdict.specs.declared.passing.Outcome.{Outcome}
use Rattle.sip_verdict.specs.declared.passing.Outcome.TheVariants as all
use Rattle.sip_standard.specs.Observation.{Observation}
use Rattle.sip_verdict.specs.Entries.{concerns}
use Rattle.sip_verdict.specs.inner.Stepping.{LeadsTo, IsStepped}
use Rattle.sip_verdict.specs.inner.Tracking.{Keeping, Tracks, TracksBefore, IsOwnOutcome, first_of}
use Rattle.sip_verdict.specs.inner.Concerned.{each, is_all}

-- a set says, with these times and from a moment on, exactly where the runs stand
abbrev pub LeadsBy : {X S : Type 0} → Meaning X Times S → Texts → Times → (ℕ → X → Type 0) → ℕ → Held Times S → Type 0
LeadsBy m texts p Runs from s = LeadsTo m.names m.seen m.rules texts p s Runs from

-- the set is one of this machine, and leads to the runs over the events from the moment on
abbrev pub LeadsOf : Texts → Times → MachineKind → List MachineEvent → ℕ → AnySet → Type 0
LeadsOf texts p machine events from set = (s : Held Times (CodeOwingOf machine)) × (set ≡ set_of machine s)
    × LeadsBy (meaning_of machine) texts p (Stands (transaction_of machine).figure p events) from s

-- the set is one of this machine, and its states are just the last states of the runs over the events that end with one more event
abbrev pub StandsOf : Texts → Times → MachineKind → List MachineEvent → MachineEvent → AnySet → Type 0
StandsOf texts p machine events e set = (s : Held Times (CodeOwingOf machine)) × (set ≡ set_of machine s)
    × StandFor (meaning_of machine).names (meaning_of machine).in_range (meaning_of machine).seen texts (StandsAfter (transaction_of machine).figure p events e) s.states

-- what is kept of a key is a set of its machine
abbrev pub key_keeping : Texts → Times → Keeping (KeyParts × AnySet)
key_keeping texts p = record { key = λ t. t.0; Leads = λ t events from. LeadsOf texts p (machine_of_key p.rules t.0) events from t.1; Stands = λ t events e. StandsOf texts p (machine_of_key p.rules t.0) events e t.1 }

-- the keys of tables, each with its set
abbrev pub transactions_of : Tabled → List (KeyParts × AnySet)
transactions_of t = zip t.keys t.sets

-- the tables follow the entries
abbrev pub TablesTrack : Texts → List (Observation KeyParts) → Tabled → Type 0
TablesTrack texts es t = Tracks t.times (key_keeping texts t.times) es (transactions_of t)

-- the tables follow the entries, and know the keys of one entry more, which they have not heard yet
abbrev pub TablesTrackBefore : Texts → List (Observation KeyParts) → Observation KeyParts → Tabled → Type 0
TablesTrackBefore texts es e t = TracksBefore t.times (key_keeping texts t.times) es e (transactions_of t)

-- the numbers of the transactions that an event names one by one, and none where there is no event
abbrev pub hearers : Option Hearing → List ℕ
hearers None = []
hearers (Some h) = each h.concerned

-- whether the number is one of these
abbrev pub is_among : List ℕ → ℕ → Bool
is_among numbers number = list_any (nat_eq number) numbers

-- whether an event concerns the transaction with this number
abbrev pub concerns_number : Option Hearing → ℕ → Bool
concerns_number None number = false
concerns_number (Some h) number = is_all h.concerned || is_among (each h.concerned) number

-- a set that the event does not concern stays as it is
abbrev pub LeavesOthers : Option Hearing → Tabled → Tabled → Type 0
LeavesOthers hearing old new = (n : ℕ) → concerns_number hearing (n + 1) ≡ false → slice_get new.sets n ≡ slice_get old.sets n

-- P holds of each set but those of the transactions with these numbers
abbrev pub OthersAre : (AnySet → Type 0) → Concerned ℕ → Tabled → Type 0
OthersAre P concerned t = is_all concerned ≡ false → (n : ℕ) (set : AnySet) → is_among (each concerned) (n + 1) ≡ false → slice_get t.sets n ≡ Some set → P set

-- what is observed of an entry with this moment, for the key with this number: it hears the event where the event concerns it, and else it waits
pub record IsTold (texts : Texts) (moment : ℕ) (hearing : Option Hearing) (number : ℕ) (key : KeyParts) (e : Observation KeyParts) : Type 0 where
  pub at : e.event.moment ≡ moment
  pub event : IfSome hearing (λ h. e.event ≡ event_in texts h.event)
  pub concerned : concerns key e ≡ concerns_number hearing number

-- each of the keys hears the event of the entry where it concerns the key, and else waits
abbrev pub AreTold : Texts → List KeyParts → ℕ → Option Hearing → Observation KeyParts → Type 0
AreTold texts keys moment hearing e = (n : ℕ) (key : KeyParts) → slice_get keys n ≡ Some key → IsTold texts moment hearing (n + 1) key e

-- no state of the transaction with this number names the message
abbrev pub NamesNot : Tabled → ℕ → ℕ → Type 0
NamesNot t message number = (set : AnySet) → slice_get t.sets (number - 1) ≡ Some set → ¬ Contains (numbers_of set) message

-- a state of the transaction with this number may name the message
abbrev pub OneMayName : Tabled → ℕ → ℕ → Type 0
OneMayName t message number = (set : AnySet) × (slice_get t.sets (number - 1) ≡ Some set) × SetMayName message set

-- the message may be named: the entry concerns all transactions, or a state of one that it concerns may name it
abbrev pub MayBeNamed : Tabled → ℕ → Concerned ℕ → Type 0
MayBeNamed t message concerned = (is_all concerned ≡ true) ⊎ Any (OneMayName t message) (each concerned)

-- no set names the newest message and it was dropped, or no message was dropped
abbrev pub DropsUnnamed : List AnySet → ℕ → Texts → Texts → Type 0
DropsUnnamed sets number old new = (new ≡ old) ⊎ ((bytes : List ℕ) × (old ≡ new ++ (number, bytes) ∷ []) × All (λ set. ¬ Contains (numbers_of set) number) sets)

-- these keys were looked up one after another, each new one was put into the tables, and these are their numbers
abbrev pub TouchesEach : List KeyParts → List ℕ → Tabled → Tabled → Type 0
TouchesEach [] [] old new = new ≡ old
TouchesEach [] (n ∷ ns) old new = ⊥
TouchesEach (k ∷ ks) [] old new = ⊥
TouchesEach (k ∷ ks) (n ∷ ns) old new = (between : Tabled) × Touches k n old between × TouchesEach ks ns between new

-- these keys have these numbers among all keys
abbrev pub HaveNumbers : List KeyParts → List ℕ → List KeyParts → Type 0
HaveNumbers all [] [] = ⊤
HaveNumbers all [] (k ∷ ks) = ⊥
HaveNumbers all (n ∷ ns) [] = ⊥
HaveNumbers all (n ∷ ns) (k ∷ ks) = (0 < n) × (slice_get all (n - 1) ≡ Some k) × HaveNumbers all ns ks

-- an entry with this moment may pass: no set has a later moment, the book keeps the messages that the sets name, and each key has a set
pub record MayPass (texts : Texts) (t : Tabled) (moment : ℕ) : Type 0 where
  pub order : All (λ set. moment_of set ≤ moment) t.sets
  pub known : All (IsKnownSet texts) t.sets
  pub long : length t.sets ≡ length t.keys

-- an event with this moment may be heard: it fits the book, its numbers are given and differ, and one that concerns all is a restart
pub record MayHear (texts : Texts) (t : Tabled) (moment : ℕ) (h : Hearing) : Type 0 where
  pub fits : FitsBook texts h.event
  pub at : h.event.moment ≡ moment
  pub given : All (IsGiven t) (each h.concerned)
  pub apart : AllPairs (λ a b. a ≢ b) (each h.concerned)
  pub restart : is_all h.concerned ≡ true → h.event.action ≡ Restart

-- the transactions with these numbers hear the event, each once, and it changes no other transaction that it concerns
pub record AreHearers (t : Tabled) (concerned : Concerned ℕ) (numbers : List ℕ) : Type 0 where
  pub given : All (IsGiven t) numbers
  pub apart : AllPairs (λ a b. a ≢ b) numbers
  pub named : (number : ℕ) → is_among (each concerned) number ≡ true → is_among numbers number ≡ true
  pub heard : (number : ℕ) → is_among numbers number ≡ true → (is_all concerned || is_among (each concerned) number) ≡ true
  pub others : is_all concerned ≡ true → (n : ℕ) (set : AnySet) → slice_get t.sets n ≡ Some set → is_among numbers (n + 1) ≡ false → IsQuietSet set

-- what is on record of the set with this number: until when a wait in it can last, or nothing where the set is still to hear an event
abbrev pub IsOnRecord : List ℕ → ℕ → AnySet → Option (Option ℕ) → Type 0
IsOnRecord waits number set (Some limit) = IsAgendaOf limit set
IsOnRecord waits number set None = is_among waits number ≡ true

-- the last moment of each set is on record, except where the set is still to hear an event
pub record AreOnRecord (waits : List ℕ) (t : Tabled) : Type 0 where
  pub long : length t.records ≡ length t.keys
  pub each : (n : ℕ) (set : AnySet) (recorded : Option (Option ℕ)) → slice_get t.sets n ≡ Some set → slice_get t.records n ≡ Some recorded → IsOnRecord waits (n + 1) set recorded

-- the last moment of each set is on record
abbrev pub AllAreOnRecord : Tabled → Type 0
AllAreOnRecord t = AreOnRecord [] t

-- after an entry the last moment of each set is on record, unless the entry is in trouble
abbrev pub AreOnRecordIf : Outcome → Tabled → Type 0
AreOnRecordIf all.Fine t = AllAreOnRecord t
AreOnRecordIf (all.NoRun number) t = ⊤
AreOnRecordIf (all.TooWide number) t = ⊤

-- another set has taken the place of the one with this number; where it has a state, it is on record until when a wait in it can last
abbrev pub Leaves : ℕ → AnySet → Outcome → Tabled → Tabled → Type 0
Leaves number set all.Fine old new = (limit : Option ℕ) × IsAgendaOf limit set × (new ≡ with_record (with_set old number set) number limit)
Leaves number set (all.NoRun told) old new = new ≡ with_set old number set
Leaves number set (all.TooWide told) old new = new ≡ with_set old number set

-- the set with this number has heard the event, and `outcome` is what the event leaves of its runs
pub record Hears (texts : Texts) (e : NumberedEvent) (number : ℕ) (old new : Tabled) (outcome : Outcome) : Type 0 where
  pub before : AnySet
  pub after : AnySet
  pub was : slice_get old.sets (number - 1) ≡ Some before
  pub numbered : IsOwnOutcome number outcome
  pub leaves : Leaves number after outcome old new
  pub stepped : (p : Times) (machine : MachineKind) (events : List MachineEvent) (from : ℕ) → from ≤ e.moment → LeadsOf texts p machine events from before
      → IsStepped p machine events (event_in texts e) (λ es. LeadsOf texts p machine es e.moment after) (λ f. StandsOf texts p machine events f after) outcome

-- the sets with these numbers have heard the event one after another, and the second outcome is the first one with what they add
abbrev pub HearsEach : Texts → NumberedEvent → List ℕ → Tabled → Outcome → Tabled → Outcome → Type 0
HearsEach texts e [] old before new after = (new ≡ old) × (after ≡ before)
HearsEach texts e (n ∷ ns) old before new after =
    (between : Tabled) × (one : Outcome) × Hears texts e n old between one × HearsEach texts e ns between (first_of before one) new after

-- an entry with this number and moment may come next: the last moment of each set is on record, and each entry so far brought at most two keys
pub record MayTake (texts : Texts) (t : Tabled) (number moment : ℕ) : Type 0 where
  pub passes : MayPass texts t moment
  pub recorded : AllAreOnRecord t
  pub numbered : (n : ℕ) → Keeps texts n → n < number
  pub some : (n : ℕ) → Keeps texts n → 0 < n
  pub few : length t.keys + 2 ≤ number + number
