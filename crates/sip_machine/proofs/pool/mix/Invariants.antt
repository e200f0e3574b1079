use Rattle.sip_machine.proofs.Words.{◌≤◌, AreMixedWith}
use Rattle.sip_machine.proofs.pool.mix.Given as goal

-- the prints from `from` up to the index are mixed with the hash, and the others are as they were
abbrev pub invariant-loop-at : goal.invariant-loop-at
invariant-loop-at l = (l.from ≤ l.at) × AreMixedWith l.hash l.from l.at l.fn.prints l.prints
