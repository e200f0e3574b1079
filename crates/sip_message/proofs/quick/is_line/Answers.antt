use Rattle.std.proofs.Common.{◌≡◌, ◌+◌, ◌≤◌, length, get_or, ap, subst, arith}
use Rattle.sip_message.proofs.QuickLemmas.{open-line}
use Rattle.sip_message.proofs.quick.is_line.Goals as goal

-- a CR stands at the control, and a byte more after it
pub returns-clause-ends : goal.returns-clause-ends
returns-clause-ends c = λ _.
    -- the code compares the byte at `end` with 13, which is CR
    let end = c.args.end in
    let same = c.text-text.ensures in
    (omega (arith, c.if-left-lt2.false, ap length same), subst (λ t. get_or t end 0 ≡ 13) same (omega (arith, c.if-text-end-ne13.false)))

-- where CR and LF stand at the next control, the line ends there
pub returns-clause-line : goal.returns-clause-line
returns-clause-line c = λ _.
    -- m is the text; CR is 13, and LF is 10
    let m = c.args.masks.now in
    let end = c.args.end in
    let same = c.text-text.ensures in
    let room : end + 2 ≤ length m = omega (arith, c.if-left-lt2.false, ap length same) in
    -- CR and LF stand at the control
    let cr : get_or m end 0 ≡ 13 = subst (λ t. get_or t end 0 ≡ 13) same (omega (arith, c.if-text-end-ne13.false)) in
    let lf : get_or m (end + 1) 0 ≡ 10 = subst (λ t. get_or t (end + 1) 0 ≡ 10) same (omega (arith, c.if-text-end-ne10.false)) in
    let line = open-line m c.args.at end c.requires.control room cr lf in
    (omega (arith, c.requires.control), room, line.0, line.1)
