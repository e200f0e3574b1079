use Rattle.sip_log.proofs.logs.Logs.{log-of-two}
use Rattle.sip_log.proofs.laws.a_log_of_format_1_is_one_of_format_2.Goals as goal

-- the law is the lemma of the two headers with the same times
pub returns : goal.returns
returns c = log-of-two
