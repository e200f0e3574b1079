use Rattle.std.proofs.Common.{ℕ, Bool, not, ◌&&◌, ◌||◌, get_or, Fits, w8, refl, ap₂, ◌∙◌, arith}
use Rattle.std.proofs.lemmas.Bool.{agree_below_at}
use Rattle.std.proofs.lemmas.Simd.{Each1-get_or}
use Rattle.sip_masks.specs.Marks.{is_control, is_other}
use Rattle.sip_masks.proofs.BitLemmas.{test-or}
use Rattle.sip_masks.proofs.LaneLemmas.{equal, from_byte, classified}
use Rattle.sip_masks.proofs.TableLemmas.{low_ok, high_ok}
use Rattle.sip_masks.proofs.KindLemmas.{kind, kinds, raised}
use Rattle.sip_masks.proofs.block.others.Goals as goal

-- each low half is an index of the table
pub swizzle-low : goal.swizzle-low
swizzle-low c = low_ok c.args.v c.fits-v

-- each high half is an index of the table
pub swizzle-high : goal.swizzle-high
swizzle-high c = high_ok c.args.v c.fits-v

-- the byte is neither plain nor a control
abbrev is_neither : ℕ → Bool
is_neither byte = is_other byte && not (is_control byte)

-- each bit says whether its byte is neither kind of plain byte, or a control
pub returns : goal.returns
returns c i h =
    -- v is the block of 64 bytes; by one comparison of masks `neither` is so for the byte i, and by another `control` is
    let v = c.args.v in
    let long = c.fits-v.0 in
    let all = kinds v c.fits-v in
    -- `classified`: lanes that are made of one byte each tell a class of bytes if they do so for each of the 256 bytes, which `refl` computes
    let neither = classified _ is_neither 64 v _ c.fits-v (omega arith) (equal kind 64 0 v long all) refl i h in
    let control = classified _ is_control 64 v _ c.fits-v (omega arith) (from_byte _ 64 128 v long (raised v c.fits-v)) refl i h in
    -- the bit of the OR is the OR of both, and for each of the 256 bytes this is whether it is other, by computing
    test-or _ _ i ∙ ap₂ (λ a b. a || b) neither control
    ∙ agree_below_at (λ x. is_neither x || is_control x) is_other 256 (get_or v i 0) refl (Each1-get_or (Fits w8) v i 0 (omega (arith, long, h)) c.fits-v.1).fits
