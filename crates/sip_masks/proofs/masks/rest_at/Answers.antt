use Rattle.std.proofs.Common.{◌≡◌, ◌+◌, ◌/◌, ◌%◌, get_or, ap₂, ◌∙◌, arith}
use Rattle.sip_masks.specs.Bits.{test}
use Rattle.sip_masks.proofs.WordLemmas.{test-shr, test-above}
use Rattle.sip_masks.proofs.masks.rest_at.Goals as goal

-- bit j of the answer is the bit of the place p + j, where that place lies in the same word as p
pub returns-clause-bits : goal.returns-clause-bits
returns-clause-bits c j h =
    let words = c.args.words.now in
    let p = c.args.p in
    let word : p / 64 ≡ (p + j) / 64 = omega (arith, h) in
    let bit : p % 64 + j ≡ (p + j) % 64 = omega (arith, h) in
    test-shr (get_or words (p / 64) 0) (p % 64) j ∙ ap₂ (λ w i. test (get_or words w 0) i) word bit

-- past the end of the word no bit is set
pub returns-clause-none : goal.returns-clause-none
returns-clause-none c j h =
    let x = get_or c.args.words.now (c.args.p / 64) 0 in
    test-shr x (c.args.p % 64) j ∙ test-above x (c.args.p % 64 + j) (omega (arith, c.type_inv.words (c.args.p / 64))) (omega (arith, h))
