use Rattle.consequences.proofs.Fronts.{first_breach}
use Rattle.consequences.proofs.verdicts.a_breach_is_the_first.Goals as goal

-- the law is the lemma of fronts that a breach follows
pub returns : goal.returns
returns c = first_breach
