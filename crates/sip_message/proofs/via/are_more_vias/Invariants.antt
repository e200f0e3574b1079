use Rattle.std.proofs.Common.{◌↔◌, length}
use Rattle.sip_message.proofs.lemmas.via.Value.{AreMore}
use Rattle.sip_message.proofs.via.are_more_vias.Given as goal

-- the rest is further elements exactly if the whole text is
abbrev pub invariant-elements : goal.invariant-elements
invariant-elements l = AreMore l.rest ↔ AreMore l.fn.text

-- what is left gets shorter in each turn of the loop
abbrev pub decreases-elements : goal.decreases-elements
decreases-elements l = length l.rest
