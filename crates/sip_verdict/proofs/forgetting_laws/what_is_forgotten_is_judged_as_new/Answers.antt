use Rattle.sip_verdict.proofs.surveys.forgetting.Remembered.{found_forgotten}
use Rattle.sip_verdict.proofs.forgetting_laws.what_is_forgotten_is_judged_as_new.Goals as goal

-- the law, that a forgotten transaction is judged as a new one, is the lemma of transactions that are forgotten
pub returns : goal.returns
returns c p kept key old front e order not = found_forgotten kept key not p old front e order
