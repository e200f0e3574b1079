use Rattle.sip_standard.proofs.SameKey.{same_key-decides}
use Rattle.sip_key.proofs.laws.keys_are_equal_by_their_parts.Goals as goal

-- the law, that keys are equal exactly if they have the same parts, is what the test of two keys decides
pub returns : goal.returns
returns c = same_key-decides
