use Rattle.std.proofs.Common.{◌≡◌, ◌+◌, length, take, drop, sym, ap, ◌∙◌, arith}
use Rattle.std.specs.Option.{option_map_or}
use Rattle.std.proofs.lemmas.List.{length-take, take_rest}
use Rattle.sip_text.proofs.cuts.LastLemmas.{last-nowhere, last-place}
use Rattle.sip_text.proofs.cut.cut_last.Goals as goal

-- the front ends before the last mark
pub returns-in-Some-clause-front : goal.returns-in-Some-clause-front
returns-in-Some-clause-front c =
    let last = c.in-Some.ensures in
    sym (last-place c.args.mark c.in-Some.at c.args.text.now last.0.high last.0.after last.1)

-- after the last mark stands what is left of the text
pub returns-in-Some-clause-rest : goal.returns-in-Some-clause-rest
returns-in-Some-clause-rest c =
    let last = c.in-Some.ensures in
    -- the front, up to the last mark, has as many bytes as the place of the mark says, so the rest is the text without the front and the mark
    let len : c.in-Some.at ≡ length (take c.in-Some.at c.args.text.now) = omega (arith, length-take c.in-Some.at c.args.text.now, last.0.high) in
    take_rest c.args.text.now (c.in-Some.at + 1)
    ∙ ap (λ n. drop (n + 1) c.args.text.now) len
    ∙ ap (λ o. option_map_or (λ u. drop (length u + 1) c.args.text.now) o c.args.text.now)
    (sym (last-place c.args.mark c.in-Some.at c.args.text.now last.0.high last.0.after last.1))

-- without a mark there is no front
pub returns-in-None-clause-front : goal.returns-in-None-clause-front
returns-in-None-clause-front c = sym (last-nowhere c.args.mark c.args.text.now c.in-None.ensures)

-- without a mark the whole text is the rest
pub returns-in-None-clause-rest : goal.returns-in-None-clause-rest
returns-in-None-clause-rest c =
    ap (λ o. option_map_or (λ u. drop (length u + 1) c.args.text.now) o c.args.text.now)
    (sym (last-nowhere c.args.mark c.args.text.now c.in-None.ensures))
