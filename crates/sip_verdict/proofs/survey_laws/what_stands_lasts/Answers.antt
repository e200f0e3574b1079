use Rattle.sip_states.proofs.runs.StandsLemmas.{what_stands_lasts}
use Rattle.sip_verdict.proofs.survey_laws.what_stands_lasts.Goals as goal

-- the law, that a run stands in no state after the last moment of that state, is the lemma of the same name
pub returns : goal.returns
returns c = what_stands_lasts
