use Rattle.consequences.proofs.Fronts.{first_wide}
use Rattle.consequences.proofs.verdicts.an_undecided_log_is_too_wide.Goals as goal

-- the law is the lemma of fronts that an undecided entry follows
pub returns : goal.returns
returns c = first_wide
