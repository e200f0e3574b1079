use Rattle.std.proofs.Common.{◌≡◌, drop}
use Rattle.sip_part.specs.Led.{branch_in}
use Rattle.sip_part.proofs.led.branch_in.Given as goal

-- the branch that the search finds in the whole text is the one that it finds from `at` on
abbrev pub invariant-loop-at : goal.invariant-loop-at
invariant-loop-at l = branch_in l.text ≡ branch_in (drop l.at l.text)
