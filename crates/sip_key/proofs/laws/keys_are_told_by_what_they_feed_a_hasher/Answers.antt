use Rattle.sip_key.proofs.HashLemmas.{key_by_its_feed}
use Rattle.sip_key.proofs.laws.keys_are_told_by_what_they_feed_a_hasher.Goals as goal

-- the bytes that a key feeds tell each of its parts
pub returns : goal.returns
returns c = key_by_its_feed
