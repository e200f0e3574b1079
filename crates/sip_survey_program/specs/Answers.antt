-- What the program writes of a log, and the status that it ends with. The definitions speak of input and output where these are known.
use Rattle.std.specs.Prelude.{◌≡◌, ℕ, List, Option, None, Some, IfSome}
use Rattle.std.specs.Io.KnownBytes.{Appends}
use Rattle.sip_verdict.specs.declared.finding.Finding.{Finding}
use Rattle.sip_verdict.specs.declared.survey_end.SurveyEnd.{SurveyEnd}
use Rattle.sip_part.specs.Part.{PartOf}
use Rattle.sip_verdict.specs.ForgettingText.{IsToldForgetting}
use Rattle.sip_verdict.specs.SurveyParts.{IsPartToldOf}
use Rattle.sip_verdict.specs.SurveyText.{IsToldOf}
use Rattle.sip_survey_program.specs.declared.words.Asked.{Asked}
use Rattle.sip_survey_program.specs.declared.words.Log.{Log}
use Rattle.sip_survey_program.specs.declared.words.Log.TheVariants.{Input, File}
use Rattle.sip_survey_program.specs.Asked.{IsAskedBy}
use Rattle.sip_survey_program.specs.Status.{status_of}

-- the survey of the input, or of the part that is named, and its text; by a survey that may forget after these milliseconds, where they are named
abbrev pub IsSurveyFor : (forget : Option ℕ) → Option PartOf → List ℕ → List Finding → SurveyEnd → List ℕ → Type 0
IsSurveyFor None None input found end text = IsToldOf input found end text
IsSurveyFor None (Some part) input found end text = IsPartToldOf part input found end text
IsSurveyFor (Some age) part input found end text = IsToldForgetting age part input found end text

-- this survey of the input is written, a line for each finding and a last one, and this is its status
abbrev pub IsSurveyed : (forget : Option ℕ) (part : Option PartOf) (input before after : Option (List ℕ)) → ℕ → Type 0
IsSurveyed forget part input before after status =
    IfSome input (λ bytes. (found : List Finding) × (end : SurveyEnd) × (text : List ℕ) × IsSurveyFor forget part bytes found end text × Appends before after text
    × (status ≡ status_of found end))

-- the log that is asked for: the standard input, or the file at this path
abbrev pub log_for : Log → (input : Option (List ℕ)) (file : List ℕ → Option (List ℕ)) → Option (List ℕ)
log_for Input input file = input
log_for (File path) input file = file path.now

-- what these words ask for is written of its log, and this is its status
pub record IsAnswerTo (words : List (List ℕ)) (input : Option (List ℕ)) (file : List ℕ → Option (List ℕ)) (before after : Option (List ℕ)) (status : ℕ) : Type 0 where
  pub asked : Asked
  pub is_asked : IsAskedBy words (Some asked)
  pub is : IsSurveyed asked.forget asked.part (log_for asked.log input file) before after status
