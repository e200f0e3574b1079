use Rattle.std.proofs.Common.{◌≡◌, length}
use Rattle.sip_message.specs.inner.Fronts.{past_wsp}
use Rattle.sip_message.proofs.field.past_wsp.Given as goal

-- the rest past its SP and HTAB is the text past its own
abbrev pub invariant-blanks : goal.invariant-blanks
invariant-blanks l = past_wsp l.rest ≡ past_wsp l.fn.text

-- what is left gets shorter in each turn of the loop
abbrev pub decreases-blanks : goal.decreases-blanks
decreases-blanks l = length l.rest
