use Rattle.sip_verdict.proofs.verdicts.OneVerdict.{verdict_is_one}
use Rattle.sip_verdict.proofs.laws.an_input_has_one_verdict.Goals as goal

-- the law, that an input has at most one verdict, is the lemma of two verdicts on one input
pub returns : goal.returns
returns c = λ input. verdict_is_one input c.args._one.now c.args._other.now
