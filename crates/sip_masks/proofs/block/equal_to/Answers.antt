use Rattle.std.proofs.Common.{ℕ, eqb, false, map, ap, ◌∙◌, arith, w8}
use Rattle.std.proofs.lemmas.Simd.{bitmask_splat}
use Rattle.std.proofs.lemmas.List.{get_or-map}
use Rattle.sip_masks.specs.Bits.{test}
use Rattle.sip_masks.proofs.BitLemmas.{test-mask}
use Rattle.sip_masks.proofs.block.equal_to.Goals as goal

-- each bit tells whether its byte is equal to this one
pub returns : goal.returns
returns c i h =
    let p = λ (x : ℕ). eqb x c.args.byte in
    -- the mask has a bit for each lane, which says whether its byte is this one
    ap (λ n. test n i) (bitmask_splat w8 eqb c.args.v 32 c.args.byte c.fits-v.0 (omega arith)) ∙ test-mask (map p c.args.v) i ∙ get_or-map p c.args.v i 0 false (omega (arith, c.fits-v.0))
