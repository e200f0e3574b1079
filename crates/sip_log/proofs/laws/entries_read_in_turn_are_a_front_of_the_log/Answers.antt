use Rattle.sip_log.proofs.logs.Logs.{log-front}
use Rattle.sip_log.proofs.laws.entries_read_in_turn_are_a_front_of_the_log.Goals as goal

-- the law, that entries read one after another are the first ones of the log, is the lemma of items that were read after the header
pub returns : goal.returns
returns c = log-front
