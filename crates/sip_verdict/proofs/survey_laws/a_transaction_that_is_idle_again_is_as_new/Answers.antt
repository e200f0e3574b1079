use Rattle.sip_verdict.proofs.surveys.forgetting.IdleAgain.{idle_is_new}
use Rattle.sip_verdict.proofs.survey_laws.a_transaction_that_is_idle_again_is_as_new.Goals as goal

-- the law, that a transaction which is surely idle again stands as a new one does, is the lemma of machines that stand in idle alone
pub returns : goal.returns
returns c = idle_is_new
