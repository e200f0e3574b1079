use Rattle.sip_verdict.proofs.surveys.forgetting.Remembered.{found_kept}
use Rattle.sip_verdict.proofs.forgetting_laws.what_is_kept_is_judged_on.Goals as goal

-- the law, that a transaction which is kept is judged as if nothing were forgotten, is the lemma of transactions that are kept
pub returns : goal.returns
returns c p kept key old front e is = found_kept kept key is p old front e
