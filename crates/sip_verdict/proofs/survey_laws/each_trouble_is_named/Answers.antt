use Rattle.sip_verdict.proofs.surveys.found.Named.{trouble_is_named}
use Rattle.sip_verdict.proofs.survey_laws.each_trouble_is_named.Goals as goal

-- the law, that the survey names each transaction in trouble, is the lemma of findings over the entries of a log
pub returns : goal.returns
returns c = trouble_is_named
