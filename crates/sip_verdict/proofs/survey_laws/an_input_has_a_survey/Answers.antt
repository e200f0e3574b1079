use Rattle.sip_verdict.proofs.surveys.found.HasSurvey.{has_survey}
use Rattle.sip_verdict.proofs.survey_laws.an_input_has_a_survey.Goals as goal

-- the law, that each input has a survey, is the lemma that no input is without one
pub returns : goal.returns
returns c = has_survey
