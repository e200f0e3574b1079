use Rattle.std.proofs.Common.{◌≡◌, ◌-◌, true, subst, arith, w64}
use Rattle.std.specs.Int.{leading_zeros}
use Rattle.std.proofs.lemmas.Nat.{leading_top}
use Rattle.sip_masks.specs.Bits.{test}
use Rattle.sip_masks.proofs.HostWordLemmas.{highest-set, none-above}
use Rattle.sip_masks.proofs.host.highest.Goals as goal

-- the bit at the place that the leading zeros tell is set
pub returns-clause-set : goal.returns-clause-set
returns-clause-set c =
    let word = c.args.word in
    let top = leading_top 64 word c.requires c.ranges.word.fits in
    let is : top.0 ≡ 63 - leading_zeros w64 word = omega (arith, top.1) in
    subst (λ j. test word j ≡ true) is (highest-set word top.0 top.2 top.3)

-- no bit above the highest one is set
pub returns-clause-above : goal.returns-clause-above
returns-clause-above c j after =
    let word = c.args.word in
    let top = leading_top 64 word c.requires c.ranges.word.fits in
    none-above word top.0 j top.3 (omega (arith, top.1, after))
