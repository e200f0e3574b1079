use Rattle.consequences.proofs.Fronts.{cannot_be_read}
use Rattle.consequences.proofs.verdicts.a_fault_of_a_log_comes_first.Goals as goal

-- the law is the lemma of logs that cannot be read on
pub returns : goal.returns
returns c = cannot_be_read
