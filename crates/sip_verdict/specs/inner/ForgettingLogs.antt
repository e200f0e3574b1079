-- How a whole log is read and surveyed by a survey that forgets, entry by entry.
use Rattle.std.specs.Prelude.{◌≡◌, ◌≤◌, ◌+◌, ◌⊎◌, ◌++◌, ◌∷◌, [], ℕ, false, Option, IfSome, List, length, take, ⊤}
use Rattle.std.specs.Io.KnownBytes.{Appends}
use Rattle.sip_standard.specs.Key.{KeyParts}
use Rattle.sip_standard.specs.Times.{Times}
use Rattle.sip_standard.specs.LogEntry.{Item}
use Rattle.sip_standard.specs.LogSays.{LogEnd, Clean, Stops}
use Rattle.sip_standard.specs.Observation.{Observation}
use Rattle.sip_part.specs.Part.{PartOf}
use Rattle.sip_standard.specs.declared.log_reason.LogReason.{LogReason}
use Rattle.sip_log.specs.Reading.{ProgressState, entries, Continues}
use Rattle.sip_log.specs.Stream.{StreamSays}
use Rattle.sip_log.specs.Told.{item}
use Rattle.sip_log.proofs.answers.StreamLemmas.{HasStreamed}
use Rattle.sip_verdict.specs.declared.finding.Finding.{Finding}
use Rattle.sip_verdict.specs.declared.horizon.Horizon.{Horizon}
use Rattle.sip_verdict.specs.declared.summary.Summary.{Summary}
use Rattle.sip_verdict.specs.declared.survey_end.SurveyEnd.{SurveyEnd}
use Rattle.sip_verdict.specs.Entries.{newest_moment}
use Rattle.sip_verdict.specs.ForgettingText.{IsLongAgo, IsToldAfter, IsToldForgetting}
use Rattle.sip_verdict.specs.SurveyText.{SumsUp}
use Rattle.sip_verdict.specs.Surveys.{Surveying, SurveysFor}
use Rattle.sip_verdict.specs.declared.reading.Next.{Next}
use Rattle.sip_verdict.specs.declared.reading.Next.TheVariants.{Entry, End, Fault}
use Rattle.sip_log.specs.Reading as log

-- the horizon has the moment of one of these entries, or 0 before the first; and all entries with a number up to `until` came at least its age ago
pub record IsHorizonOf (m : Horizon) (es : List (Observation KeyParts)) : Type 0 where
  pub inside : m.number ≤ length es
  pub at : newest_moment (take m.number es) ≡ m.moment
  pub until_inside : m.until ≤ length es
  pub long_ago : (m.until ≡ 0) ⊎ IsLongAgo m.age m.until es

-- after `count` entries one more has the next number, and keeps order and limits
abbrev pub StreamsOn : ℕ → ProgressState → ProgressState → Next → Type 0
StreamsOn count old new (Entry e) = (new.stage ≡ entries) × Continues (count + 1) old.last e × (new.last ≡ e.moment)
StreamsOn count old new End = ⊤
StreamsOn count old new (Fault reason) = ⊤

-- what comes after the entries that were read: one more, the end of the input, or the fault that ends it
abbrev pub StreamGives : Option (List ℕ) → Times → List Item → log.ReaderState → Next → Type 0
StreamGives start p items new (Entry e) = HasStreamed start p (items ++ item e ∷ []) new
StreamGives start p items new End = IfSome start (λ input. StreamSays input p items Clean)
StreamGives start p items new (Fault reason) = (fault : LogReason) × (reason ≡ fault) × IfSome start (λ input. StreamSays input p items (Stops fault))

-- the survey goes on, and took all entries that were read up to this place
pub record IsStreamAt (s : Surveying) (place : ProgressState) : Type 0 where
  pub on : place.stage ≡ entries
  pub goes_on : s.failed ≡ false
  pub newest : s.moment ≡ place.last

-- the survey has taken what is left of the entries that were read of the input, and these are its findings and lines so far: together with what is
-- found and written of the items to come they are those of the whole log
pub record RemembersRead (age : ℕ) (part : Option PartOf) (p : Times) (s : Surveying) (found : List Finding) (lines : List ℕ) (start : Option (List ℕ)) (now : log.ReaderState) : Type 0 where
  pub items : List Item
  pub es : List (Observation KeyParts)
  pub times : s.tables.times ≡ p
  pub follows : SurveysFor s es
  pub read : HasStreamed start p items now
  pub front : (rest : List Item) (close : LogEnd) (later : List Finding) (end : SurveyEnd) (more : List ℕ) → IsToldAfter age part p es rest close later end more
      → IsToldAfter age part p [] (items ++ rest) close (found ++ later) end (lines ++ more)

-- the survey of the input, or of a part, is written, and the summary sums it up
pub record IsWrittenForgetting (age : ℕ) (part : Option PartOf) (input : List ℕ) (summary : Summary) (before after : Option (List ℕ)) : Type 0 where
  pub found : List Finding
  pub text : List ℕ
  pub told : IsToldForgetting age part input found summary.end text
  pub sums : SumsUp found summary
  pub written : Appends before after text
