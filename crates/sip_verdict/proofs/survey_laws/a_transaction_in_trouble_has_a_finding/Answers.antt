use Rattle.sip_verdict.proofs.surveys.found.OneFinding.{some_finding}
use Rattle.sip_verdict.proofs.survey_laws.a_transaction_in_trouble_has_a_finding.Goals as goal

-- the law, that a transaction in trouble has a finding, is the lemma of entries at which a transaction comes into trouble
pub returns : goal.returns
returns c = some_finding
