use Rattle.sip_log.proofs.logs.Logs.{log-written}
use Rattle.sip_log.proofs.laws.what_is_written_is_read.Goals as goal

-- the law, that a log which was written is read as it was written, is the lemma of logs that were written
pub returns : goal.returns
returns c = log-written
