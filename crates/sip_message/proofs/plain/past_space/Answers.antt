use Rattle.sip_standard.specs.Profile.{Sws}
use Rattle.sip_text.specs.Bytes.{space, Byte}
use Rattle.sip_message.proofs.PlainLemmas.{stands-as, sws-space}
use Rattle.sip_message.proofs.plain.past_space.Goals as goal

-- a SP is blanks
pub returns-in-Some : goal.returns-in-Some
returns-in-Some c = stands-as (Byte space) Sws c.args.masks.now c.args.at c.args.end c.in-Some.behind sws-space c.in-Some.ensures
