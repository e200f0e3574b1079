-- The survey of one part of a log that is cut by branch.
use Rattle.std.specs.Prelude.{◌≡◌, ◌⊎◌, ℕ, MatchOption, Option, None, Some, List, [], ◌∷◌, if◌then◌else◌, ⊤}
use Rattle.sip_standard.specs.declared.action.Action.TheVariants.{Mark}
use Rattle.sip_standard.specs.Times.{Times}
use Rattle.sip_standard.specs.LogEntry.{Item}
use Rattle.sip_standard.specs.LogSays.{LogEnd, LogSays, LacksHeader}
use Rattle.sip_part.specs.Part.{PartOf, TellsBranch, falls_into}
use Rattle.sip_verdict.specs.declared.finding.Finding.{Finding}
use Rattle.sip_verdict.specs.declared.survey_end.SurveyEnd.{SurveyEnd}
use Rattle.sip_standard.specs.declared.log_reason.LogReason.TheVariants.{Header}
use Rattle.sip_standard.specs.Observation.{direction_of, Observation}
use Rattle.sip_verdict.specs.SurveyOf.{IsSurveyAfter}
use Rattle.sip_standard.specs.Key.{KeyParts}
use Rattle.sip_standard.specs.Seen.{AreSeen}
use Rattle.sip_verdict.specs.SurveyText.{IsSurveyText}
use Rattle.sip_verdict.specs.declared.survey_end.SurveyEnd.TheVariants as ended

-- the item as the log of the part has it: as it is where it has no message or its message falls into the part, and else as a mark of its moment
abbrev pub IsPartItem : PartOf → Item → Item → Type 0
IsPartItem part item cut =
    MatchOption (direction_of item.action) (cut ≡ item)
    (λ direction. (branch : List ℕ) × TellsBranch item.text branch × (cut ≡ if falls_into part branch then item else record { action = Mark; moment = item.moment; text = [] }))

-- an item as it is surveyed: itself, or as it is in the log of the part
abbrev pub IsTaken : Option PartOf → Item → Item → Type 0
IsTaken None item taken = taken ≡ item
IsTaken (Some part) item taken = IsPartItem part item taken

-- the log of the part has each item of the whole log, as it is or as a mark
abbrev pub IsPartLog : PartOf → List Item → List Item → Type 0
IsPartLog part [] [] = ⊤
IsPartLog part (item ∷ items) (cut ∷ cuts) = IsPartItem part item cut × IsPartLog part items cuts
IsPartLog part items cuts = ⊥

-- the survey of a part of an input: its end where the header has a fault, and else what is found at the entries of the part's log, and how the log ends
abbrev pub IsPartSurveyOf : PartOf → List ℕ → List Finding → SurveyEnd → Type 0
IsPartSurveyOf part input found end =
    (LacksHeader input × (found ≡ []) × (end ≡ ended.LogFault 0 Header))
    ⊎ ((p : Times) × (items : List Item) × (close : LogEnd) × (cuts : List Item) × LogSays input p items close × IsPartLog part items cuts × IsSurveyAfter p [] cuts close found end)

-- what is observed of the entries of the log of the part
abbrev pub ArePartEntriesOf : PartOf → List ℕ → List (Observation KeyParts) → Type 0
ArePartEntriesOf part input es =
    (LacksHeader input × (es ≡ []))
    ⊎ ((p : Times) × (items : List Item) × (close : LogEnd) × (cuts : List Item) × LogSays input p items close × IsPartLog part items cuts × AreSeen [] cuts es)

-- the survey of a part of an input, and its text
abbrev pub IsPartToldOf : PartOf → List ℕ → List Finding → SurveyEnd → List ℕ → Type 0
IsPartToldOf part input found end text = IsPartSurveyOf part input found end × ((es : List (Observation KeyParts)) × ArePartEntriesOf part input es × IsSurveyText es found end text)
