use Rattle.sip_verdict.proofs.surveys.found.OneSurvey.{survey_one}
use Rattle.sip_verdict.proofs.survey_laws.a_survey_is_one.Goals as goal

-- the law, that an input has at most one survey, is the lemma of two surveys of one input
pub returns : goal.returns
returns c = survey_one
