-- How a log is read and judged, entry by entry.
use Rattle.std.specs.Prelude.{◌≡◌, ◌<◌, ◌≤◌, ◌+◌, ◌++◌, ◌∷◌, [], ℕ, Option, Some, None, Result, Ok, Err, IfSome, List, length, ⊤}
use Rattle.sip_standard.specs.Key.{KeyParts}
use Rattle.sip_standard.specs.Times.{Times}
use Rattle.sip_machine.specs.Texts.{Texts}
use Rattle.sip_states.specs.Tables.{Tabled}
use Rattle.sip_standard.specs.LogEntry.{Item}
use Rattle.sip_standard.specs.LogSays.{most_entries, Clean, Stops, LogSays}
use Rattle.sip_log.specs.Told.{item}
use Rattle.sip_log.specs.declared.entry.Entry.{Entry as LogEntry}
use Rattle.sip_log.specs.Reading.{ProgressState, entries, Continues}
use Rattle.sip_log.proofs.answers.CallerLemmas.{Stands}
use Rattle.sip_verdict.specs.declared.reading.Next.{Next}
use Rattle.sip_verdict.specs.declared.reading.Next.TheVariants.{Entry, End, Fault}
use Rattle.sip_verdict.specs.declared.walking.Aim.{Aim}
use Rattle.sip_verdict.specs.declared.walking.Aim.TheVariants as aim
use Rattle.sip_standard.specs.declared.verdict.Verdict.{Verdict}
use Rattle.sip_standard.specs.declared.verdict.Verdict.TheVariants.{Legal, Malformed, Breach, Undecided, LogFault as FaultOfLog}
use Rattle.sip_standard.specs.declared.log_reason.LogReason.{LogReason}
use Rattle.sip_standard.specs.declared.listing.Listing.{Listing}
use Rattle.sip_standard.specs.declared.listing.Listing.TheVariants.{Stopped, NoEntry}
use Rattle.sip_standard.specs.Observation.{Observation}
use Rattle.sip_standard.specs.Seen.{AreSeen}
use Rattle.sip_standard.specs.VerdictOf.{Sees, HasTrouble, IsVerdictOf}
use Rattle.sip_standard.specs.ListingOf.{IsListingOf}
use Rattle.sip_verdict.specs.Entries.{newest_moment}
use Rattle.sip_verdict.specs.Judging.{AreFollowed}
use Rattle.sip_verdict.specs.inner.Numbering.{AreNumbered}
use Rattle.sip_verdict.specs.inner.TablesTracking.{TablesTrack}
use Rattle.sip_log.specs.Reading as log

-- What follows is of what is read of a log.

-- these times and entries were read of an input, and it may be read on
pub record HasRead (start : Option (List ℕ)) (times : Times) (items : List Item) (now : log.ReaderState) : Type 0 where
  pub on : now.stage ≡ entries
  pub times_are : now.times ≡ Some times
  pub stands : Stands start items now

-- what the log has after these entries: one more, its end, or the fault that ends it
abbrev pub WalkGives : Option (List ℕ) → Times → List Item → log.ReaderState → Next → Type 0
WalkGives start times items new (Entry e) = HasRead start times (items ++ item e ∷ []) new
WalkGives start times items new End = IfSome start (λ input. LogSays input times items Clean)
WalkGives start times items new (Fault reason) = (fault : LogReason) × (reason ≡ fault) × IfSome start (λ input. LogSays input times items (Stops fault))

-- where one more entry was read, it has the next number and keeps the order and the limits
abbrev pub MovesOn : ProgressState → ProgressState → Next → Type 0
MovesOn old new (Entry e) = (new.stage ≡ entries) × Continues (old.count + 1) old.last e × (new.count ≡ e.number) × (new.last ≡ e.moment) × (old.count < most_entries)
MovesOn old new End = ⊤
MovesOn old new (Fault reason) = ⊤

-- What follows is of what was judged of a log.

-- what is kept follows these entries: few messages where the aim is the end of the log, and each under its first entry's number where the aim is an entry
abbrev pub FollowsAim : Aim → Texts → Tabled → ℕ → List Item → List (Observation KeyParts) → Type 0
FollowsAim aim.End texts t left items es = AreFollowed texts t left es
FollowsAim (aim.Entry number) texts t left items es = TablesTrack texts es t × AreNumbered items texts

-- what is kept of the entries follows the entry e too, or the verdict of e is given
abbrev pub FollowsOn : Aim → Texts → Tabled → ℕ → List Item → Item → List (Observation KeyParts) → Observation KeyParts → Option Verdict → Type 0
FollowsOn way texts t left items i es e None = FollowsAim way texts t left (items ++ i ∷ []) (es ++ e ∷ [])
FollowsOn way texts t left items i es e (Some v) = HasTrouble t.times es e v

-- what is judged of the entry that comes next, whatever entries came before
abbrev pub JudgesOn : Aim → Texts → Tabled → ℕ → Texts → Tabled → ℕ → LogEntry → Option Verdict → Type 0
JudgesOn way old t left new u rest entry verdict = (items : List Item) (es : List (Observation KeyParts)) → FollowsAim way old t left items es
    → length items ≡ length es → entry.number ≡ length es + 1 → newest_moment es ≤ entry.moment
    → (e : Observation KeyParts) × Sees es (item entry) e × FollowsOn way new u rest items (item entry) es e verdict

-- these entries were read of the input, and `count` is how many they are; what is kept follows what is observed of them, and none is later than the place
pub record Walks (way : Aim) (start : Option (List ℕ)) (now : log.ReaderState) (count left : ℕ) (texts : Texts) (t : Tabled) : Type 0 where
  pub items : List Item
  pub es : List (Observation KeyParts)
  pub observed : AreSeen [] items es
  pub follows : FollowsAim way texts t left items es
  pub long : length items ≡ length es
  pub counts : count ≡ length es
  pub read : HasRead start t.times items now
  pub newest : newest_moment es ≤ now.last

-- what is listed of an entry where the walk ended before it: the verdict, or that the log has no entry of this number where it is legal
abbrev pub listed_after : Verdict → Listing
listed_after (Legal whole transactions) = NoEntry
listed_after (Malformed entry fault) = Stopped (Malformed entry fault)
listed_after (Breach entry transaction) = Stopped (Breach entry transaction)
listed_after (Undecided entry transaction) = Stopped (Undecided entry transaction)
listed_after (FaultOfLog entry reason) = Stopped (FaultOfLog entry reason)

-- what a walk over an input answers: its verdict where the aim is the end, and what is listed of the entry where the aim is an entry
abbrev pub WalksTo : Aim → Option (List ℕ) → Result Listing Verdict → Type 0
WalksTo aim.End start (Ok listing) = ⊥
WalksTo aim.End start (Err v) = IfSome start (λ input. IsVerdictOf input v)
WalksTo (aim.Entry number) start (Ok listing) = IfSome start (λ input. IsListingOf input number listing)
WalksTo (aim.Entry number) start (Err v) = IfSome start (λ input. IsListingOf input number (listed_after v))
