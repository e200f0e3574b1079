use Rattle.std.proofs.Common.{length, option_copied}
use Rattle.sip_message.proofs.lemmas.params.Branch.{Decides}
use Rattle.sip_message.proofs.via.cut_branch.Given as goal

-- the branch of the text is the one that was found, or else that of the rest which is still to be read
abbrev pub invariant-params : goal.invariant-params
invariant-params l = Decides l.fn.text l.rest (option_copied l.branch)

-- what is left gets shorter in each turn of the loop
abbrev pub decreases-params : goal.decreases-params
decreases-params l = length l.rest
