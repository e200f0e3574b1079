use Rattle.sip_part.proofs.Told.{told_branch}
use Rattle.sip_part.proofs.laws.a_message_falls_by_its_branch.Goals as goal

-- the law, that a message without a fault falls into its part by the branch of its top Via, is the lemma of branches that are told
pub returns : goal.returns
returns c = told_branch
