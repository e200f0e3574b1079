use Rattle.std.proofs.Common.{◌≡◌, ◌+◌, ◌-◌, true, get_or, Some, drop, sym, ap, ◌∙◌, arith}
use Rattle.std.proofs.lemmas.Bool.{and_from, eq-eqb}
use Rattle.std.proofs.lemmas.List.{take_rest}
use Rattle.sip_text.specs.inner.HostTests.{is_double_at}
use Rattle.sip_text.proofs.cuts.DoubleLemmas.{double-first, double-nowhere}
use Rattle.sip_text.proofs.host.cut_double.Goals as goal

-- where the loop returns, a "::" begins at the byte before the index
found : (c : goal.After-result-1) → is_double_at c.args.text.now (c.loop-at.at - 1) ≡ true
found c =
    let next : c.loop-at.at - 1 + 1 ≡ c.loop-at.at = omega arith in
    and_from _ _ (eq-eqb _ _ c.if-text-at-eq58.true)
    (eq-eqb _ _ (ap (λ n. get_or c.args.text.now n 0) next ∙ c.if-text-at-eq58-2.true))

-- the front ends before the first two colons
pub returns-then-text-at-eq58-2-clause-front : goal.returns-then-text-at-eq58-2-clause-front
returns-then-text-at-eq58-2-clause-front c =
    sym (double-first (c.loop-at.at - 1) c.args.text.now (omega arith) (found c) (λ j below. c.loop-at.invariant j (omega arith))).0

-- what is left begins after the first "::"
pub returns-then-text-at-eq58-2-clause-rest : goal.returns-then-text-at-eq58-2-clause-rest
returns-then-text-at-eq58-2-clause-rest c =
    let next : c.loop-at.at + 1 ≡ c.loop-at.at - 1 + 2 = omega arith in
    ap Some (take_rest c.args.text.now (c.loop-at.at + 1))
    ∙ ap (λ n. Some (drop n c.args.text.now)) next
    ∙ sym (double-first (c.loop-at.at - 1) c.args.text.now (omega arith) (found c) (λ j below. c.loop-at.invariant j (omega arith))).1

-- without two colons the whole text is the front
pub returns-clause-front : goal.returns-clause-front
returns-clause-front c = sym (double-nowhere c.args.text.now (λ k within. c.loop-at.invariant k (omega arith))).0

-- without two colons nothing is left
pub returns-clause-rest : goal.returns-clause-rest
returns-clause-rest c = sym (double-nowhere c.args.text.now (λ k within. c.loop-at.invariant k (omega arith))).1
