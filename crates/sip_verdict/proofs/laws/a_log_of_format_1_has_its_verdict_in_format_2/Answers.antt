use Rattle.sip_verdict.proofs.verdicts.FormatLaws.{format_verdict}
use Rattle.sip_verdict.proofs.laws.a_log_of_format_1_has_its_verdict_in_format_2.Goals as goal

-- the law, that a log of format 1 has the same verdict after a header of format 2, is the lemma of two headers with the same times
pub returns : goal.returns
returns c = format_verdict c.args._verdict.now
