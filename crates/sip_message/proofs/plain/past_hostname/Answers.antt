use Rattle.std.proofs.Common.{◌≡◌, ◌+◌, ◌-◌, take, drop, sym, subst, arith}
use Rattle.sip_standard.specs.Profile.{Hostname}
use Rattle.sip_message.proofs.PlainLemmas.{run-ends}
use Rattle.sip_message.proofs.plain.past_hostname.Goals as goal

-- the place after the name is not after the end of the line
pub overflow_add-result : goal.overflow_add-result
overflow_add-result c = omega (arith, run-ends c.args.masks.now c.args.at c.args.end c.in_ok-len.len c.requires.0 c.requires.1 c.in_ok-len.ensures.0)

-- the name is a run of plain bytes, so it ends before the line does
pub returns : goal.returns
returns c =
    -- the name has `len` bytes from the place `at` on
    let m = c.args.masks.now in
    let at = c.args.at in
    let len = c.in_ok-len.len in
    let name = c.in_ok-len.ensures in
    let count : at + len - at ≡ len = omega arith in
    (omega arith, run-ends m at c.args.end len c.requires.0 c.requires.1 name.0, subst (λ k. Hostname (take k (drop at m))) (sym count) name.1.0)
