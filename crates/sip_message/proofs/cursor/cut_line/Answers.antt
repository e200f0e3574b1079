use Rattle.std.proofs.Common.{◌+◌, ◌-◌, option_copied, length, sym, ap, ◌∙◌, subst, arith}
use Rattle.std.proofs.lemmas.List.{take_rest, length-take-le}
use Rattle.sip_text.specs.Bytes.{line_feed}
use Rattle.sip_text.specs.inner.Cut.{before, behind}
use Rattle.sip_message.specs.inner.Fronts.{LineFront, pair_parts}
use Rattle.sip_message.proofs.lemmas.lines.Scan.{scan-nothing, cut-none, line-found, line-on, lf-within}
use Rattle.sip_message.specs.inner.Only.{IsOnlyValue}
use Rattle.sip_message.proofs.cursor.cut_line.Goals as goal

-- no line feed was looked at yet
pub ends-init : goal.ends-init
ends-init c = record { within = omega arith; scanned = scan-nothing c.args.text.now }

-- where no line feed is left, no line is read
pub returns-in_err-rest : goal.returns-in_err-rest
returns-in_err-rest c =
    subst (IsOnlyValue LineFront pair_parts c.args.text.now) (sym c.from_residual.ensures)
    -- from the place `at` on no LF stands
    (cut-none c.args.text.now c.ends.at c.ends.invariant.scanned
    (sym (ap option_copied c.in_err-rest.was) ∙ c.cut.ensures.rest ∙ ap (behind line_feed) (take_rest c.args.text.now c.ends.at)))

-- the place of the line feed lies within the text
pub slice_bounds-result-length : goal.slice_bounds-result-length
slice_bounds-result-length c =
    -- the code cuts what is left at its first LF, which lies within the text
    let text = c.args.text.now in
    let same = take_rest text c.ends.at in
    let within = lf-within text c.cut.result.0.now c.in_ok-rest.rest.now c.ends.at c.ends.invariant.within
    (c.cut.ensures.front ∙ ap (before line_feed) same) (sym (ap option_copied c.in_ok-rest.was) ∙ c.cut.ensures.rest ∙ ap (behind line_feed) same) in
    sym (length-take-le (c.ends.at + length c.cut.result.0.now - 1) text (omega (arith, within)))

-- where the line feed that was found ends the line, the text is cut there
pub returns-then-is_line : goal.returns-then-is_line
returns-then-is_line c =
    -- what is left is cut at its first LF, and the test says that this ends the line
    let text = c.args.text.now in
    let same = take_rest text c.ends.at in
    line-found text c.cut.result.0.now c.in_ok-rest.rest.now c.ends.at c.ends.invariant.within c.ends.invariant.scanned
    (c.cut.ensures.front ∙ ap (before line_feed) same) (sym (ap option_copied c.in_ok-rest.was) ∙ c.cut.ensures.rest ∙ ap (behind line_feed) same)
    (sym c.is_line.ensures ∙ c.if-is_line.true)

-- the line feed that was found ends no line, so the search goes on after it
pub ends-preserved : goal.ends-preserved
ends-preserved c =
    -- what is left is cut at its first LF, and the test says that this ends no line
    let text = c.args.text.now in
    let same = take_rest text c.ends.at in
    let next = line-on text c.cut.result.0.now c.in_ok-rest.rest.now c.ends.at c.ends.invariant.within c.ends.invariant.scanned
    (c.cut.ensures.front ∙ ap (before line_feed) same) (sym (ap option_copied c.in_ok-rest.was) ∙ c.cut.ensures.rest ∙ ap (behind line_feed) same)
    (sym c.is_line.ensures ∙ c.if-is_line.false) in
    record { within = next.0; scanned = next.1 }
