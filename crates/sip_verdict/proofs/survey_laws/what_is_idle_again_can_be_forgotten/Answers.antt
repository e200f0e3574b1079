use Rattle.sip_verdict.proofs.surveys.forgetting.Forgetting.{found_new}
use Rattle.sip_verdict.proofs.survey_laws.what_is_idle_again_can_be_forgotten.Goals as goal

-- the law, that the entries before a transaction was idle again change nothing of what is found of it, is the lemma of such transactions
pub returns : goal.returns
returns c p key old front e order again sound = found_new p key old again sound front e order
