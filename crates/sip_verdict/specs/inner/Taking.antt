-- The entries of a log as a survey takes them.
use Rattle.std.specs.Prelude.{◌≡◌, ◌<◌, ◌≤◌, ◌+◌, ◌++◌, ◌∷◌, [], ℕ, Option, List, ⊤}
use Rattle.sip_standard.specs.Times.{Times, last_moment}
use Rattle.sip_standard.specs.LogEntry.{Item}
use Rattle.sip_standard.specs.LogSays.{most_entries}
use Rattle.sip_log.specs.Told.{item}
use Rattle.sip_log.specs.Reading.{ProgressState, entries}
use Rattle.sip_part.specs.Part.{PartOf}
use Rattle.sip_verdict.specs.SurveyParts.{IsTaken}
use Rattle.sip_verdict.specs.declared.reading.Next.{Next}
use Rattle.sip_verdict.specs.declared.reading.Next.TheVariants.{Entry, End, Fault}
use Rattle.sip_verdict.specs.inner.Walking.{HasRead, WalkGives}
use Rattle.sip_log.proofs.answers.StreamLemmas.{HasStreamed}
use Rattle.sip_verdict.specs.inner.ForgettingLogs.{StreamGives}
use Rattle.sip_log.specs.Reading as log

-- where one more entry was taken, it has the next number, and it keeps the order and the limit of moments
abbrev pub TakesOn : ProgressState → ProgressState → Next → Type 0
TakesOn old new (Entry e) = (new.stage ≡ entries) × (e.number ≡ old.count + 1) × (old.last ≤ e.moment) × (e.moment ≤ last_moment) × (new.count ≡ e.number) × (new.last ≡ e.moment) × (old.count < most_entries)
TakesOn old new End = ⊤
TakesOn old new (Fault reason) = ⊤

-- what the log has after these entries: one more, which is taken as it is or as the log of the part has it, its end, or the fault that ends it
abbrev pub TakenGives : Option PartOf → Option (List ℕ) → Times → List Item → log.ReaderState → Next → Type 0
TakenGives part start times items new (Entry e) = (i : Item) × HasRead start times (items ++ i ∷ []) new × IsTaken part i (item e)
TakenGives part start times items new End = WalkGives start times items new End
TakenGives part start times items new (Fault reason) = WalkGives start times items new (Fault reason)

-- What follows is of a log that may have any number of entries.

-- where one more entry was taken after `count` of them, it has the next number, and it keeps the order and the limit of moments
abbrev pub TakesAfter : ℕ → ProgressState → ProgressState → Next → Type 0
TakesAfter count old new (Entry e) = (new.stage ≡ entries) × (e.number ≡ count + 1) × (old.last ≤ e.moment) × (e.moment ≤ last_moment) × (new.last ≡ e.moment)
TakesAfter count old new End = ⊤
TakesAfter count old new (Fault reason) = ⊤

-- what the log has after these entries: one more, which is taken as it is or as the log of the part has it, its end, or the fault that ends it
abbrev pub StreamTaken : Option PartOf → Option (List ℕ) → Times → List Item → log.ReaderState → Next → Type 0
StreamTaken part start times items new (Entry e) = (i : Item) × HasStreamed start times (items ++ i ∷ []) new × IsTaken part i (item e)
StreamTaken part start times items new End = StreamGives start times items new End
StreamTaken part start times items new (Fault reason) = StreamGives start times items new (Fault reason)
