-- How a whole log is read and surveyed, entry by entry.
use Rattle.std.specs.Prelude.{◌≡◌, ◌≤◌, ◌+◌, ◌++◌, [], ◌∷◌, ℕ, false, Option, Some, None, List, length, filter, ⊤, ◌<◌, ◌-◌, IfSome, IsSomeAnd, slice_get}
use Rattle.std.specs.Io.KnownBytes.{Appends}
use Rattle.sip_standard.specs.Key.{KeyParts}
use Rattle.sip_standard.specs.LogEntry.{Item}
use Rattle.sip_standard.specs.LogSays.{LogEnd, most_entries}
use Rattle.sip_part.specs.Part.{PartOf}
use Rattle.sip_log.specs.Reading.{ProgressState, entries}
use Rattle.sip_verdict.specs.declared.finding.Finding.{Finding}
use Rattle.sip_standard.specs.declared.judge_error.JudgeError.{JudgeError}
use Rattle.sip_verdict.specs.declared.summary.Summary.{Summary}
use Rattle.sip_verdict.specs.declared.survey_end.SurveyEnd.{SurveyEnd}
use Rattle.sip_verdict.specs.declared.survey_error.SurveyError.{SurveyError}
use Rattle.sip_verdict.specs.declared.survey_error.SurveyError.TheVariants.{Read, Memory}
use Rattle.sip_verdict.specs.declared.surveying.Counts.{Counts}
use Rattle.sip_standard.specs.Observation.{Observation}
use Rattle.sip_verdict.specs.SurveyOf.{IsSurveyAfter, IsSurveyOf, IsFoundAt}
use Rattle.sip_verdict.specs.SurveyParts.{IsPartSurveyOf, IsPartToldOf, IsTaken}
use Rattle.sip_verdict.specs.SurveyText.{SumsUp, is_undecided, IsFirstEntryOf, IsLastEntryOf, IsLineOf, IsToldOf}
use Rattle.sip_verdict.specs.Surveys.{Surveying, SurveysFor}
use Rattle.sip_verdict.specs.inner.Walking.{HasRead}
use Rattle.sip_standard.specs.Times.{Times}
use Rattle.sip_verdict.specs.declared.finding.Finding.TheVariants.{Malformed, Breach, Undecided}
use Rattle.sip_verdict.specs.declared.transaction.Transaction.{Transaction}
use Rattle.sip_standard.specs.Seen.{AreSeen}
use Rattle.sip_standard.specs.VerdictOf.{keys_in}
use Rattle.sip_log.specs.Reading as log
use Rattle.sip_standard.specs.declared.judge_error.JudgeError.TheVariants as judging

-- the error of a survey that stands for this error of judging, where a log could not be read to its end
abbrev pub unsurveyed : JudgeError → SurveyError
unsurveyed judging.Io = Read
unsurveyed judging.Memory = Memory

-- these findings were counted, besides those that were counted before
pub record AreCounted (found : List Finding) (old new : Counts) : Type 0 where
  pub findings : new.findings ≡ old.findings + length found
  pub undecided : new.undecided ≡ old.undecided + length (filter is_undecided found)

-- the counts are those of these findings, and these lines were written
pub record HasWritten (found : List Finding) (lines : List ℕ) (counts : Counts) (before after : Option (List ℕ)) : Type 0 where
  pub findings : counts.findings ≡ length found
  pub undecided : counts.undecided ≡ length (filter is_undecided found)
  pub written : Appends before after lines

-- the survey tells the transaction with this number
abbrev pub Tells : Surveying → ℕ → Option Transaction → Type 0
Tells s number told = (es : List (Observation KeyParts)) → SurveysFor s es → 0 < number
    → IfSome (slice_get (keys_in es) (number - 1)) (λ key. IsSomeAnd told (λ t. (t.key.now ≡ key) × IsFirstEntryOf es key t.first t.branch.now × IsLastEntryOf es key t.last))

-- the survey tells the transaction of the finding; a fault of a message has no transaction
abbrev pub TellsOf : Surveying → Finding → Option Transaction → Type 0
TellsOf s (Malformed entry fault) told = told ≡ None
TellsOf s (Breach entry number) told = Tells s number told
TellsOf s (Undecided entry number) told = Tells s number told

-- this is the line of the finding, where it is found at the newest entry that the survey has taken
abbrev pub IsLineBy : Surveying → Finding → List ℕ → Type 0
IsLineBy s f line = (p : Times) (es : List (Observation KeyParts)) (e : Observation KeyParts) → SurveysFor s (es ++ e ∷ []) → IsFoundAt p es e f → IsLineOf (es ++ e ∷ []) f line

-- these are the lines of findings at the newest entry, one after another
abbrev pub AreLinesBy : Surveying → List Finding → List ℕ → Type 0
AreLinesBy s [] text = text ≡ []
AreLinesBy s (f ∷ found) text = (line : List ℕ) × (more : List ℕ) × IsLineBy s f line × AreLinesBy s found more × (text ≡ line ++ more)

-- the items as they are surveyed: the whole log, or the log of the part
abbrev pub AreTaken : Option PartOf → List Item → List Item → Type 0
AreTaken part [] [] = ⊤
AreTaken part (item ∷ items) (taken ∷ more) = IsTaken part item taken × AreTaken part items more
AreTaken part items taken = ⊥

-- the survey of the whole input, or of the part
abbrev pub IsSurveyIn : Option PartOf → List ℕ → List Finding → SurveyEnd → Type 0
IsSurveyIn None input found end = IsSurveyOf input found end
IsSurveyIn (Some part) input found end = IsPartSurveyOf part input found end

-- the survey of the whole input, or of the part, with its text
abbrev pub IsToldIn : Option PartOf → List ℕ → List Finding → SurveyEnd → List ℕ → Type 0
IsToldIn None input found end text = IsToldOf input found end text
IsToldIn (Some part) input found end text = IsPartToldOf part input found end text

-- the survey of the input, or of a part of it, is written, and the summary sums it up
pub record IsWritten (part : Option PartOf) (input : List ℕ) (summary : Summary) (before after : Option (List ℕ)) : Type 0 where
  pub found : List Finding
  pub text : List ℕ
  pub told : IsToldIn part input found summary.end text
  pub sums : SumsUp found summary
  pub written : Appends before after text

-- the survey goes on, and took all entries that were read up to this place, with each of which at most two transactions came
pub record IsSurveyAt (s : Surveying) (place : ProgressState) : Type 0 where
  pub on : place.stage ≡ entries
  pub goes_on : s.failed ≡ false
  pub counts : s.number ≡ place.count
  pub newest : s.moment ≡ place.last
  pub few : place.count ≤ most_entries
  pub room : length s.tables.keys ≤ place.count + place.count

-- the survey has taken the entries that were read of the input, and found this at them: with what is found at the entries to come, it is the whole survey
pub record SurveysRead (part : Option PartOf) (s : Surveying) (found : List Finding) (start : Option (List ℕ)) (now : log.ReaderState) : Type 0 where
  pub items : List Item
  pub taken : List Item
  pub es : List (Observation KeyParts)
  pub are_taken : AreTaken part items taken
  pub seen : AreSeen [] taken es
  pub follows : SurveysFor s es
  pub read : HasRead start s.tables.times items now
  pub front : (rest : List Item) (close : LogEnd) (later : List Finding) (end : SurveyEnd) → IsSurveyAfter s.tables.times es rest close later end
      → IsSurveyAfter s.tables.times [] (taken ++ rest) close (found ++ later) end
