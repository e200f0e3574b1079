use Rattle.sip_verdict.proofs.verdicts.LegalRuns.{legal_log}
use Rattle.sip_verdict.proofs.laws.a_legal_log_has_runs.Goals as goal

-- the law, that each transaction of a legal log has a run over all entries, is the lemma on what a legal log has
pub returns : goal.returns
returns c = legal_log
