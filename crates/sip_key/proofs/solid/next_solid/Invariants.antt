use Rattle.std.proofs.Common.{◌≡◌, length}
use Rattle.sip_standard.specs.Solid.{solid}
use Rattle.sip_key.proofs.solid.next_solid.Given as goal

-- the rest without its blanks is the text without its blanks: only blanks were passed
abbrev pub invariant-blanks : goal.invariant-blanks
invariant-blanks l = solid l.rest ≡ solid l.fn.text

-- what is left gets shorter in each turn of the loop
abbrev pub decreases-blanks : goal.decreases-blanks
decreases-blanks l = length l.rest
