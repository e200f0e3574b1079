use Rattle.std.proofs.Common.{◌≤◌, length, take, drop, sym, ap, ◌∙◌, subst, arith}
use Rattle.std.specs.List.{prefix_len}
use Rattle.std.proofs.lemmas.Bool.{both_ways}
use Rattle.std.proofs.lemmas.List.{length-take-le, take_rest}
use Rattle.std.proofs.lemmas.List.Sums.{prefix_len-le-length}
use Rattle.sip_masks.specs.Marks.{is_plain}
use Rattle.sip_masks.specs.Names.{OrdinaryName}
use Rattle.sip_masks.proofs.masks.Masks.name_at.Goals as goal

-- the bytes that are looked at are plain
pub is_ordinary_name-requires : goal.is_ordinary_name-requires
is_ordinary_name-requires c =
    let p = c.args.p in
    let text = c.text.result.now in
    let all = ap (prefix_len is_plain) (take_rest text p) ∙ ap (λ t. prefix_len is_plain (drop p t)) c.text.ensures in
    omega (arith, all, c.in_ok-len.ensures.0)

-- where the plain bytes at p are an ordinary name, the answer is how many they are
pub returns-then-is_ordinary_name : goal.returns-then-is_ordinary_name
returns-then-is_ordinary_name c =
    let len = c.in_ok-len.len in
    let p = c.args.p in
    -- the window at p is what the text has from p on, so the first len bytes there are an ordinary name
    let name =
    subst (λ t. OrdinaryName (take len (drop p t)) × (32 ≤ length (drop p t))) c.text.ensures
    (subst (λ w. OrdinaryName (take len w) × (32 ≤ length w)) (take_rest c.text.result.now p) (c.is_ordinary_name.ensures.0 c.if-is_ordinary_name.true)) in
    (c.in_ok-len.ensures.0, name.0, name.1)

-- no ordinary name stands at p, since the plain bytes there are no ordinary name
pub returns-else-is_ordinary_name : goal.returns-else-is_ordinary_name
returns-else-is_ordinary_name c len begins =
    -- p is the place and n how many plain bytes stand there, as the code has counted; `name` would be the ordinary name
    let p = c.args.p in
    let n = c.in_ok-len.len in
    let name : OrdinaryName (take n (drop p c.args.self.now)) = subst (λ k. OrdinaryName (take k (drop p c.args.self.now))) (begins.0 ∙ sym c.in_ok-len.ensures.0) begins.1 in
    both_ways c.is_ordinary_name.result c.if-is_ordinary_name.false
    (c.is_ordinary_name.ensures.1 (subst (λ w. OrdinaryName (take n w) × (32 ≤ length w)) (sym (take_rest c.text.result.now p))
    (subst (λ t. OrdinaryName (take n (drop p t)) × (32 ≤ length (drop p t))) (sym c.text.ensures) (name, begins.2))))

-- a run of 64 bytes or more is longer than an ordinary name
pub returns-in_err-len : goal.returns-in_err-len
returns-in_err-len c =
    rw c.from_residual.ensures
    (λ len begins.
    let rest = drop c.args.p c.args.self.now in
    omega (arith, begins.0, begins.1.1, c.in_err-len.ensures, length-take-le len rest (omega (arith, begins.0, prefix_len-le-length is_plain rest))))
