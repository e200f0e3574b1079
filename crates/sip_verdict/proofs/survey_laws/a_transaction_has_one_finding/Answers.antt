use Rattle.sip_verdict.proofs.surveys.found.OneFinding.{one_finding}
use Rattle.sip_verdict.proofs.survey_laws.a_transaction_has_one_finding.Goals as goal

-- the law, that a transaction has no two findings, is the lemma that one in trouble from an entry on has no finding at a later one
pub returns : goal.returns
returns c = one_finding
