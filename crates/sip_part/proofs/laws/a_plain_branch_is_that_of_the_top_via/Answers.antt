use Rattle.sip_part.proofs.Fields.{led_found}
use Rattle.sip_part.proofs.laws.a_plain_branch_is_that_of_the_top_via.Goals as goal

-- the branch that the search finds is the one that the message says
pub returns : goal.returns
returns c text s branch says led = led_found text branch s says led
