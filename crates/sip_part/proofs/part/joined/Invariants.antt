use Rattle.std.proofs.Common.{◌≡◌, take}
use Rattle.std.specs.Prelude.{◌*◌, ◌%◌, ◌^◌, fold, bit_xor}
use Rattle.sip_standard.specs.Case.{folded}
use Rattle.sip_part.proofs.part.joined.Given as goal

-- the sum is that of the bytes so far
-- 16777619 is the number by which FNV-1a of 32 bits multiplies
abbrev pub invariant-loop-byte : goal.invariant-loop-byte
invariant-loop-byte l = l.sum ≡ fold (λ sum byte. (bit_xor sum byte * 16777619) % 2 ^ 32) l.start (folded (take l.byte-index l.text))
