use Rattle.std.proofs.Common.{◌+◌, Some, sym, ap, ◌∙◌}
use Rattle.std.proofs.lemmas.List.{take_rest}
use Rattle.sip_text.proofs.cuts.CutLemmas.{before-first, before-nowhere}
use Rattle.sip_text.proofs.cut.cut.Goals as goal

-- the front ends before the first mark
pub returns-in-Some-clause-front : goal.returns-in-Some-clause-front
returns-in-Some-clause-front c =
    let first = c.in-Some.ensures in
    sym (before-first c.args.mark c.in-Some.at c.args.text.now first.0.high first.0.before first.1).0

-- what is left begins after the first mark
pub returns-in-Some-clause-rest : goal.returns-in-Some-clause-rest
returns-in-Some-clause-rest c =
    let first = c.in-Some.ensures in
    ap Some (take_rest c.args.text.now (c.in-Some.at + 1))
    ∙ sym (before-first c.args.mark c.in-Some.at c.args.text.now first.0.high first.0.before first.1).1

-- without a mark the whole text is the front
pub returns-in-None-clause-front : goal.returns-in-None-clause-front
returns-in-None-clause-front c = sym (before-nowhere c.args.mark c.args.text.now c.in-None.ensures).0

-- without a mark nothing is left
pub returns-in-None-clause-rest : goal.returns-in-None-clause-rest
returns-in-None-clause-rest c = sym (before-nowhere c.args.mark c.args.text.now c.in-None.ensures).1
