-- The status with which the survey program ends.
use Rattle.std.specs.Prelude.{ℕ, List, [], ◌∷◌, if◌then◌else◌}
use Rattle.std.specs.List.{list_all}
use Rattle.sip_verdict.specs.declared.finding.Finding.{Finding}
use Rattle.sip_verdict.specs.declared.survey_end.SurveyEnd.{SurveyEnd}
use Rattle.sip_verdict.specs.declared.survey_end.SurveyEnd.TheVariants.{Clean, LogFault}
use Rattle.sip_verdict.specs.SurveyText.{is_undecided}

-- the status of the program by what was found and how the log ended: 2 where the log cannot be read to its end, and else 0 where nothing was found,
-- 3 where each finding is a transaction that is followed no further, and 1 where some finding is another one
abbrev pub status_of : List Finding → SurveyEnd → ℕ
status_of found (LogFault entry reason) = 2
status_of [] (Clean entries transactions) = 0
status_of (f ∷ found) (Clean entries transactions) = if list_all is_undecided (f ∷ found) then 3 else 1
