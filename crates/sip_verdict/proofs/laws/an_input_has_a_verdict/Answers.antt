use Rattle.sip_verdict.proofs.verdicts.HasVerdict.{has_verdict}
use Rattle.sip_verdict.proofs.laws.an_input_has_a_verdict.Goals as goal

-- the law, that each input has a verdict, is the lemma that no input is without one
pub returns : goal.returns
returns c = has_verdict
