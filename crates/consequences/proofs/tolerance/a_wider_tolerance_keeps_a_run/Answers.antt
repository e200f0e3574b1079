use Rattle.consequences.proofs.lemmas.tolerance.AllWider.{all-wider}
use Rattle.consequences.proofs.tolerance.a_wider_tolerance_keeps_a_run.Goals as goal

-- the law is the lemma that a wider tolerance keeps the runs of all six machines
pub returns : goal.returns
returns c = all-wider
