use Rattle.std.proofs.Common.{ℕ, ◌+◌, ◌-◌, ◌%◌, refl, arith}
use Rattle.std.proofs.lemmas.Simd.{zip2_splat}
use lib.Bits.{bit_or}
use Rattle.sip_masks.specs.inner.Strange.{is_beyond}
use Rattle.sip_masks.proofs.LaneLemmas.{splatted, from_byte, classified}
use Rattle.sip_masks.proofs.block.beyond.Goals as goal

-- a less b, as a byte: what is below 0 goes on from 255
abbrev less : ℕ → ℕ → ℕ
less a b = (a + (256 - b)) % 256

-- each bit tells whether its byte lies outside of the range of names
pub returns : goal.returns
returns c =
    let v = c.args.v in
    let long = c.fits-v.0 in
    -- `classified`: lanes that are made of one byte each tell a class of bytes if they do so for each of the 256 bytes, which `refl` computes
    -- here a lane is the byte with the bit 32 set, less 45, and compared with 78
    classified _ is_beyond 32 v _ c.fits-v (omega arith) (from_byte _ 32 78 v long (splatted less _ 32 45 v long (zip2_splat bit_or v 32 32 long))) refl
