use Rattle.sip_survey_program.proofs.Together.{together}
use Rattle.sip_survey_program.proofs.laws.the_parts_find_together_what_the_whole_finds.Goals as goal

-- the law, that the parts find together what the whole finds, is the lemma of the surveys of an input
pub returns : goal.returns
returns c = together
