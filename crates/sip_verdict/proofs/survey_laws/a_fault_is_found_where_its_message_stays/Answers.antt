use Rattle.sip_verdict.proofs.surveys.parts.PartFaults.{part_faults}
use Rattle.sip_verdict.proofs.survey_laws.a_fault_is_found_where_its_message_stays.Goals as goal

-- the law, that a part finds the faults of the whole whose messages stay in it, is the lemma of the faults of a part
pub returns : goal.returns
returns c = part_faults
