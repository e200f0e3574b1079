use Rattle.std.proofs.Common.{length, sym, ◌∙◌, arith}
use Rattle.std.proofs.lemmas.List.Sums.{prefix_len_is}
use Rattle.sip_text.specs.inner.Class.{is_in}
use Rattle.sip_text.proofs.class.run_len.Goals as goal

-- the run ends before a byte that is not in the class
pub returns-then-not-has-clause-run : goal.returns-then-not-has-clause-run
returns-then-not-has-clause-run c =
    sym (prefix_len_is (is_in c.args.class) c.args.text.now c.loop-at.at 0 (omega arith) c.loop-at.invariant
    (λ _. sym c.has.ensures ∙ c.if-not-has.true))

-- all bytes are in the class
pub returns-clause-run : goal.returns-clause-run
returns-clause-run c =
    sym (prefix_len_is (is_in c.args.class) c.args.text.now (length c.args.text.now) 0 (omega arith)
    (λ k h. c.loop-at.invariant k (omega arith)) (λ h. absurd (omega arith)))
