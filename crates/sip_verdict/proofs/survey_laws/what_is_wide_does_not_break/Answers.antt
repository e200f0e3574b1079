use Rattle.sip_verdict.proofs.surveys.passing.Wide.{wide_runs}
use Rattle.sip_verdict.proofs.survey_laws.what_is_wide_does_not_break.Goals as goal

-- the law, that a transaction which is followed no further has a run over the entry, is the lemma that one that is too wide stands in some state
pub returns : goal.returns
returns c = wide_runs
