use Rattle.sip_log.proofs.logs.Streams.{clean_stream, log_stream}
use Rattle.sip_log.proofs.laws.a_log_is_a_stream.Goals as goal

-- with few entries the limit on their number is never met
pub returns-clause-few : goal.returns-clause-few
returns-clause-few c = log_stream

-- a log that is read to its end is the same log with a limit on the number of its entries and without
pub returns-clause-whole : goal.returns-clause-whole
returns-clause-whole c = clean_stream
