use Rattle.sip_verdict.proofs.verdicts.FormatLaws.{rules_verdict}
use Rattle.sip_verdict.proofs.laws.a_line_of_rules_6026_changes_no_verdict.Goals as goal

-- the law, that a log has the same verdict with the line `rules 6026` and without it, is the lemma of two headers that say the same
pub returns : goal.returns
returns c = rules_verdict c.args._verdict.now
