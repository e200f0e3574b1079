use Rattle.sip_verdict.proofs.surveys.found.FirstFinding.{verdict_is_in}
use Rattle.sip_verdict.proofs.survey_laws.the_verdict_is_in_the_survey.Goals as goal

-- the law, that the verdict is the first finding of the survey, or else how the log ended, is the lemma of the first finding
pub returns : goal.returns
returns c = verdict_is_in
