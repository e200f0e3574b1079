use Rattle.std.proofs.Common.{◌≡◌, take}
use Rattle.sip_standard.specs.Solid.{solid}
use Rattle.sip_key.proofs.solid.solid_of.Given as goal

-- the output is what stands before the index, without its blanks
abbrev pub invariant-loop-byte : goal.invariant-loop-byte
invariant-loop-byte l = l.out.items ≡ solid (take l.byte-index l.text)
