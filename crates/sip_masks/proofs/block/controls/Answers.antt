use Rattle.std.proofs.Common.{refl, arith}
use Rattle.sip_masks.specs.Marks.{is_control}
use Rattle.sip_masks.proofs.LaneLemmas.{from_byte, classified}
use Rattle.sip_masks.proofs.TableLemmas.{low_ok, high_ok}
use Rattle.sip_masks.proofs.KindLemmas.{raised}
use Rattle.sip_masks.proofs.block.controls.Goals as goal

-- each low half is an index of the table
pub swizzle-low : goal.swizzle-low
swizzle-low c = low_ok c.args.v c.fits-v

-- each high half is an index of the table
pub swizzle-high : goal.swizzle-high
swizzle-high c = high_ok c.args.v c.fits-v

-- each bit tells whether its byte is a control
pub returns : goal.returns
returns c =
    let v = c.args.v in
    -- `classified`: lanes that are made of one byte each tell a class of bytes if they do so for each of the 256 bytes, which `refl` computes
    -- here a lane is the kind of the byte with 96 added (`raised`), compared with 128
    classified _ is_control 64 v _ c.fits-v (omega arith) (from_byte _ 64 128 v c.fits-v.0 (raised v c.fits-v)) refl
