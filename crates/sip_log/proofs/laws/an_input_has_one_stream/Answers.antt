use Rattle.sip_log.proofs.logs.Streams.{stream_has_header, stream_is_one}
use Rattle.sip_log.proofs.laws.an_input_has_one_stream.Goals as goal

-- an input that has a log has a header
pub returns-clause-either : goal.returns-clause-either
returns-clause-either c = stream_has_header

-- what is read of an input is read in one way
pub returns-clause-one : goal.returns-clause-one
returns-clause-one c = stream_is_one
