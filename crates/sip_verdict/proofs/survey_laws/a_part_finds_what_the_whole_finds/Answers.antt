use Rattle.sip_verdict.proofs.surveys.parts.Parts.{part_is_whole}
use Rattle.sip_verdict.proofs.survey_laws.a_part_finds_what_the_whole_finds.Goals as goal

-- the law, that a chosen transaction is named at the same entries in the whole and in the part, is the lemma of the parts of a log
pub returns : goal.returns
returns c = part_is_whole
