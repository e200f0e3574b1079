use Rattle.std.proofs.Common.{refl, arith}
use Rattle.std.proofs.lemmas.Simd.{get_or-replicate}
use Rattle.sip_masks.proofs.block.tail.Goals as goal

-- no byte of the text was written yet, and all 64 bytes are 0
pub loop-i-init : goal.loop-i-init
loop-i-init c = (refl, omega arith, λ k h. (let no : ⊥ = omega arith in absurd no), λ k from h. get_or-replicate 64 k 0 0 h)
