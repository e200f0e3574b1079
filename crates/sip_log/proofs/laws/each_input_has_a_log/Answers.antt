use Rattle.sip_log.proofs.logs.Logs.{log_is_some}
use Rattle.sip_log.proofs.laws.each_input_has_a_log.Goals as goal

-- the law, that each input has a log or lacks a header, is the lemma that reading comes to an end
pub returns : goal.returns
returns c = log_is_some
