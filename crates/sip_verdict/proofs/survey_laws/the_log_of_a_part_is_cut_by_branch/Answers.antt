use Rattle.std.proofs.Common.{[]}
use Rattle.sip_verdict.proofs.surveys.parts.PartLogs.{part_cut}
use Rattle.sip_verdict.proofs.survey_laws.the_log_of_a_part_is_cut_by_branch.Goals as goal

-- the law, that the log of a part has the entries of the branches that fall into it, is the lemma of that log, from the first entry on
pub returns : goal.returns
returns c = λ part items cuts es seen are. part_cut part [] items cuts es seen are
