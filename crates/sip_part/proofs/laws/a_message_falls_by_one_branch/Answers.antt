use Rattle.sip_part.proofs.Told.{one_told}
use Rattle.sip_part.proofs.laws.a_message_falls_by_one_branch.Goals as goal

-- the law, that a message falls into its part by one branch, is the lemma that one branch is told
pub returns : goal.returns
returns c = one_told
