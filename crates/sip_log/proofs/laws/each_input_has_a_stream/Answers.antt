use Rattle.sip_log.proofs.logs.Streams.{stream_is_some}
use Rattle.sip_log.proofs.laws.each_input_has_a_stream.Goals as goal

-- the law, that each input has a log of any number of entries or lacks a header, is the lemma that reading comes to an end
pub returns : goal.returns
returns c = stream_is_some
