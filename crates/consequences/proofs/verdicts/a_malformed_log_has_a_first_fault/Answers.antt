use Rattle.consequences.proofs.Fronts.{first_fault}
use Rattle.consequences.proofs.verdicts.a_malformed_log_has_a_first_fault.Goals as goal

-- the law is the lemma of fronts that a faulty message follows
pub returns : goal.returns
returns c = first_fault
