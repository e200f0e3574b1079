use Rattle.std.proofs.Common.{sym}
use Rattle.sip_key.proofs.KeyLemmas.{head_length}
use Rattle.sip_key.proofs.key.head_room.Goals as goal

-- before the texts stand the role and the two lengths
pub returns : goal.returns
returns c = λ role. sym (head_length role c.args.branch c.args.method)
