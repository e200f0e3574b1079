use Rattle.sip_verdict.proofs.surveys.forgetting.Remembered.{found_idle}
use Rattle.sip_verdict.proofs.forgetting_laws.nothing_is_lost_of_what_is_idle_again.Goals as goal

-- the law, that a forgotten transaction which was idle again is found as if nothing were forgotten, is the lemma of transactions that are forgotten idle
pub returns : goal.returns
returns c p kept key old front e order not again sound = found_idle kept key not p old front e order again sound
