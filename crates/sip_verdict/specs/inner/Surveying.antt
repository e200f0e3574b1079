-- What a survey keeps of the transactions of a log.
use Rattle.std.specs.Prelude.{◌≡◌, ◌≢◌, ◌≤◌, ◌<◌, ◌+◌, ◌-◌, ◌⊎◌, ◌++◌, [], ◌∷◌, ℕ, Bool, true, false, Option, Some, None, List, AllPairs, Contains, ◌↔◌, MatchBool, length, map, slice_get, slice_set}
use Rattle.sip_standard.specs.Key.{KeyParts}
use Rattle.sip_standard.specs.Times.{Times}
use Rattle.sip_machine.specs.Texts.{Texts}
use Rattle.sip_standard.specs.declared.fault.Fault.{Fault}
use Rattle.sip_machine.specs.NumberedEvent.{NumberedEvent, event_in}
use Rattle.sip_standard.specs.KeyMachine.{machine_of_key}
use Rattle.sip_states.specs.Tables.{Tabled}
use Rattle.sip_states.specs.declared.any_set.AnySet.{AnySet}
use Rattle.sip_verdict.specs.declared.finding.Finding.{Finding}
use Rattle.sip_verdict.specs.declared.finding.Finding.TheVariants.{Malformed, Breach, Undecided}
use Rattle.sip_verdict.specs.declared.troubled.Troubled.{Troubled}
use Rattle.sip_standard.specs.Observation.{Observation}
use Rattle.sip_verdict.specs.Entries.{concerns, newest_moment}
use Rattle.sip_standard.specs.VerdictOf.{RunsOver, keys_in}
use Rattle.sip_verdict.specs.SurveyOf.{IsSound, Breaks, Widens}
use Rattle.sip_verdict.specs.inner.Tracking.{IsReady, GoesOn}
use Rattle.sip_verdict.specs.inner.TablesTracking.{LeadsOf, key_keeping, is_among, AreOnRecord}

-- the transactions of the tables, some of them in trouble: the last moment of each is on record, except where its set is still to hear the event; and a
-- transaction in trouble has none on record
pub record AreWatched (waits : List ℕ) (t : Tabled) (b : Troubled) : Type 0 where
  pub long : length b.deaf.items ≡ length t.keys
  pub recorded : AreOnRecord waits t
  pub silent : (n : ℕ) → slice_get b.deaf.items n ≡ Some true → slice_get t.records n ≡ Some (Some None)

-- the transaction with this number came into trouble: it broke
pub record AddsBroken (number : ℕ) (old new : Troubled) : Type 0 where
  pub deaf : new.deaf.items ≡ slice_set old.deaf.items (number - 1) true
  pub broken : new.broken.items ≡ old.broken.items ++ number ∷ []
  pub wide : new.wide.items ≡ old.wide.items

-- the transaction with this number came into trouble: it is followed no further
pub record AddsWide (number : ℕ) (old new : Troubled) : Type 0 where
  pub deaf : new.deaf.items ≡ slice_set old.deaf.items (number - 1) true
  pub broken : new.broken.items ≡ old.broken.items
  pub wide : new.wide.items ≡ old.wide.items ++ number ∷ []

-- no transaction has come into trouble at the entry in hand yet
pub record IsFresh (b : Troubled) : Type 0 where
  pub broken : b.broken.items ≡ []
  pub wide : b.wide.items ≡ []

-- P holds of the key with this number
pub record IsNumberOf (P : KeyParts → Type 0) (keys : List KeyParts) (number : ℕ) : Type 0 where
  pub low : 0 < number
  pub key : KeyParts
  pub at : slice_get keys (number - 1) ≡ Some key
  pub holds : P key

-- the set of a key leads to its runs over the entries where the key is in no trouble, and else to its runs over no event
abbrev pub IsFollowed : Texts → Times → List (Observation KeyParts) → KeyParts → AnySet → Bool → Type 0
IsFollowed texts p es key set true = LeadsOf texts p (machine_of_key p.rules key) [] (newest_moment es) set × ¬ (IsSound p es key)
IsFollowed texts p es key set false = IsReady (key_keeping texts p) es (key, set) × IsSound p es key

-- the entries stand in the order of their moments
abbrev pub IsOrdered : List (Observation KeyParts) → Type 0
IsOrdered es = AllPairs (λ a b. a.event.moment ≤ b.event.moment) es

-- the tables follow the entries, each transaction for itself
pub record TablesSurvey (texts : Texts) (es : List (Observation KeyParts)) (t : Tabled) (deaf : List Bool) : Type 0 where
  pub order : IsOrdered es
  pub keys : t.keys ≡ keys_in es
  pub each : (n : ℕ) (key : KeyParts) (set : AnySet) (is_deaf : Bool) → slice_get t.keys n ≡ Some key → slice_get t.sets n ≡ Some set → slice_get deaf n ≡ Some is_deaf
      → IsFollowed texts t.times es key set is_deaf

-- What follows is of one entry e after the entries es, beside the book `texts` and by the times p.
module _ (texts : Texts) (p : Times) (es : List (Observation KeyParts)) (e : Observation KeyParts) where
  -- while the entry e passes, a key that was in no trouble and has come into none goes on over e, or is still to hear it; a key in trouble was in trouble
  -- before, or its number is among those that came into trouble at e
  abbrev pub IsPassing : (ℕ → Bool) → Troubled → ℕ → KeyParts → AnySet → Bool → Type 0
  IsPassing waits b number key set true =
      LeadsOf texts p (machine_of_key p.rules key) [] e.event.moment set × (¬ (IsSound p es key) ⊎ (Contains b.broken.items number ⊎ Contains b.wide.items number))
  IsPassing waits b number key set false =
      IsSound p es key × MatchBool (waits number) (IsReady (key_keeping texts p) es (key, set)) (GoesOn p (key_keeping texts p) es e (key, set))

  -- each transaction is passing the entry e, and those that came into trouble at e have no run over it or are too wide
  pub record ArePassing (waits : ℕ → Bool) (t : Tabled) (b : Troubled) : Type 0 where
    pub broken : (number : ℕ) → Contains b.broken.items number → IsNumberOf (Breaks p es e) t.keys number
    pub wide : (number : ℕ) → Contains b.wide.items number → IsNumberOf (λ key. Widens p es e key × RunsOver p (es ++ e ∷ []) key) t.keys number
    pub each : (n : ℕ) (key : KeyParts) (set : AnySet) (is_deaf : Bool) → slice_get t.keys n ≡ Some key → slice_get t.sets n ≡ Some set → slice_get b.deaf.items n ≡ Some is_deaf
        → IsPassing waits b (n + 1) key set is_deaf

  -- the entry has this event, and concerns each key with one of these numbers
  abbrev pub AreConcerned : NumberedEvent → List ℕ → List KeyParts → Type 0
  AreConcerned event numbers keys =
      (n : ℕ) (key : KeyParts) → slice_get keys n ≡ Some key → is_among numbers (n + 1) ≡ true → (e.event ≡ event_in texts event) × (concerns key e ≡ true)

-- the predicate on numbers that holds of each: each key is still to hear the entry
abbrev pub any : ℕ → Bool
any number = true

-- the transactions with these numbers have heard the event, except those that were in trouble
abbrev pub HearsNumbers : Texts → NumberedEvent → List ℕ → Tabled → Troubled → Tabled → Troubled → Type 0
HearsNumbers texts event numbers t b u c =
    (p : Times) (es : List (Observation KeyParts)) (e : Observation KeyParts) → t.times ≡ p → newest_moment es ≤ event.moment → AllPairs (λ i k. i ≢ k) numbers → AreConcerned texts p es e event numbers t.keys
    → ArePassing texts p es e (is_among numbers) t b → ArePassing texts p es e (is_among []) u c

-- what is found of the message of the entry with this number: its fault, where it has one
abbrev pub fault_listing : ℕ → Option Fault → List Finding
fault_listing entry None = []
fault_listing entry (Some fault) = Malformed entry fault ∷ []

-- what came into trouble at the entry with this number: the transactions that break, and those that are followed no further
abbrev pub listing : ℕ → List ℕ → List ℕ → List Finding
listing entry broken wide = map (λ transaction. Breach entry transaction) broken ++ map (λ transaction. Undecided entry transaction) wide

-- the second list has the numbers of the first one, each once and in ascending order
abbrev pub AreAscending : List ℕ → List ℕ → Type 0
AreAscending numbers ascending = AllPairs (λ i k. i < k) ascending × ((n : ℕ) → Contains ascending n ↔ Contains numbers n)

-- what came into trouble at the entry was appended to the findings
abbrev pub AppendsTroubled : ℕ → Troubled → List Finding → List Finding → Type 0
AppendsTroubled entry b old new =
    (broken : List ℕ) × (wide : List ℕ) × AreAscending b.broken.items broken × AreAscending b.wide.items wide × (new ≡ old ++ listing entry broken wide)
