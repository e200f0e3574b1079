use Rattle.sip_verdict.proofs.keys.FewerEntries.{fewer-entries}
use Rattle.sip_verdict.proofs.survey_laws.a_breach_stays.Goals as goal

-- the law, that a transaction with a run over entries has one over the first of them, is the lemma of runs over fewer entries
pub returns : goal.returns
returns c = fewer-entries
