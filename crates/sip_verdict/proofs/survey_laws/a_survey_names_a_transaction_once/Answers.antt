use Rattle.sip_verdict.proofs.surveys.found.Once.{named_once}
use Rattle.sip_verdict.proofs.survey_laws.a_survey_names_a_transaction_once.Goals as goal

-- the law, that a survey names no transaction twice, is the lemma of two findings of one transaction
pub returns : goal.returns
returns c = named_once
