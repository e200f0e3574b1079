use Rattle.std.proofs.Common.{◌≡◌, ◌≤◌, length}
use Rattle.sip_part.specs.Led.{via_line}
use Rattle.sip_part.proofs.led.via_line.Given as goal

-- the first line of a Via in the whole text is that of the rest
abbrev pub invariant-lines : goal.invariant-lines
invariant-lines l = (via_line l.text ≡ via_line l.rest) × (length l.rest ≤ length l.text)

-- what is left gets shorter in each turn of the loop
abbrev pub decreases-lines : goal.decreases-lines
decreases-lines l = length l.rest
