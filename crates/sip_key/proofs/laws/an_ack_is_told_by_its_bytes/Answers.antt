use Rattle.sip_key.proofs.AckOfLemmas.{ack-of_says}
use Rattle.sip_key.proofs.laws.an_ack_is_told_by_its_bytes.Goals as goal

-- the law, that an ACK belongs to an INVITE and a response exactly if what the three texts say does, is the lemma of what three texts say
pub returns : goal.returns
returns c = ack-of_says
