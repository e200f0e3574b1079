-- `run-end`, `run-mark`, `run-other`: what a cut gives where the longest run of the class is the whole text, has the mark after it, or has neither.
use Rattle.std.proofs.Common.{ap, ◌∙◌}
use Rattle.std.proofs.lemmas.List.{take_rest}
use Rattle.sip_text.specs.inner.Class.{is_in}
use Rattle.sip_text.specs.inner.Cut.{past}
use Rattle.sip_text.proofs.cuts.RunCutLemmas.{run-end, run-mark, run-other}
use Rattle.sip_text.proofs.cut.cut_run.Goals as goal

-- where the run is the whole text, all bytes before the first mark are of the class
pub returns-then-len-text-clause-run : goal.returns-then-len-text-clause-run
returns-then-len-text-clause-run c =
    (run-end (is_in c.args.class) c.args.mark c.run_len-len.result c.args.text.now c.requires c.run_len-len.ensures.run c.if-len-text.true).2

-- the front is the whole text
pub returns-then-len-text-clause-front : goal.returns-then-len-text-clause-front
returns-then-len-text-clause-front c =
    (run-end (is_in c.args.class) c.args.mark c.run_len-len.result c.args.text.now c.requires c.run_len-len.ensures.run c.if-len-text.true).0

-- where the run is the whole text, nothing is left
pub returns-then-len-text-clause-rest : goal.returns-then-len-text-clause-rest
returns-then-len-text-clause-rest c =
    (run-end (is_in c.args.class) c.args.mark c.run_len-len.result c.args.text.now c.requires c.run_len-len.ensures.run c.if-len-text.true).1

-- where the mark follows the run, all bytes before the first mark are of the class
pub returns-in-Some-clause-run : goal.returns-in-Some-clause-run
returns-in-Some-clause-run c =
    (run-mark (is_in c.args.class) c.args.mark c.run_len-len.result c.args.text.now c.in-Some.rest.now c.requires c.run_len-len.ensures.run
    (c.in-Some.ensures ∙ ap (past c.args.mark) (take_rest c.args.text.now c.run_len-len.result))).2

-- where the mark follows the run, the run is what stands before the first mark
pub returns-in-Some-clause-front : goal.returns-in-Some-clause-front
returns-in-Some-clause-front c =
    (run-mark (is_in c.args.class) c.args.mark c.run_len-len.result c.args.text.now c.in-Some.rest.now c.requires c.run_len-len.ensures.run
    (c.in-Some.ensures ∙ ap (past c.args.mark) (take_rest c.args.text.now c.run_len-len.result))).0

-- what is left follows that mark
pub returns-in-Some-clause-rest : goal.returns-in-Some-clause-rest
returns-in-Some-clause-rest c =
    (run-mark (is_in c.args.class) c.args.mark c.run_len-len.result c.args.text.now c.in-Some.rest.now c.requires c.run_len-len.ensures.run
    (c.in-Some.ensures ∙ ap (past c.args.mark) (take_rest c.args.text.now c.run_len-len.result))).1

-- where neither the end nor the mark follows the run, not all bytes before the mark are of the class
pub returns-in-None-clause-run : goal.returns-in-None-clause-run
returns-in-None-clause-run c =
    run-other (is_in c.args.class) c.args.mark c.run_len-len.result c.args.text.now c.requires c.run_len-len.ensures.run
    c.if-len-text.false (c.in-None.ensures ∙ ap (past c.args.mark) (take_rest c.args.text.now c.run_len-len.result))
