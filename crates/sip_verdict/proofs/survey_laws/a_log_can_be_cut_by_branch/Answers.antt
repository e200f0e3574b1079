use Rattle.std.specs.Prelude.{[]}
use Rattle.sip_verdict.proofs.surveys.parts.ByBranch.{branch_cut}
use Rattle.sip_verdict.proofs.survey_laws.a_log_can_be_cut_by_branch.Goals as goal

-- the law, that a log can be cut by branch, whichever branches are chosen, is the lemma of cuts by branch, from the first entry on
pub returns : goal.returns
returns c chosen = branch_cut chosen []
