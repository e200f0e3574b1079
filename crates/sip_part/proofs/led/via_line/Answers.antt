-- `rest` is what is left before this turn of the loop, `end` the place of its first LF, `left` what stands after it, and `opens` what the test says.
-- `c.lines.invariant`: .0, the first line of a Via in the text is that of the rest; .1, the rest is no longer than the text.
use Rattle.std.proofs.Common.{◌∙◌, ◌+◌, Some, drop, length, if◌then◌else◌, sym, ap, arith}
use Rattle.std.specs.Option.{option_copied}
use Rattle.std.proofs.lemmas.List.{take_rest, length-drop}
use Rattle.sip_part.specs.Led.{opens_via, via_line}
use Rattle.sip_part.proofs.Lines.{next_line, no_line}
use Rattle.sip_part.proofs.led.via_line.Goals as goal

-- where no line is left, none begins as a Via does
pub returns-in_err-end : goal.returns-in_err-end
returns-in_err-end c = ap option_copied c.from_residual.ensures ∙ sym (c.lines.invariant.0 ∙ no_line c.lines.rest.now c.in_err-end.ensures)

-- the line that begins here is the first that opens with the name of a Via
pub returns-then-opens_via : goal.returns-then-opens_via
returns-then-opens_via c =
    let rest = c.lines.rest.now in
    let first = c.in_ok-end.ensures in
    let end = c.in_ok-end.end in
    let left = drop (end + 1) rest in
    let opens = sym (ap opens_via (take_rest rest (end + 1))) ∙ sym c.opens_via.ensures ∙ c.if-opens_via.true in
    -- what is left after this line end is the first line that begins as a Via does
    ap Some (take_rest rest (end + 1)) ∙ sym (c.lines.invariant.0 ∙ next_line end rest first.0.high first.0.before first.1 ∙ ap (λ is. if is then Some left else via_line left) opens)

-- the line that begins here is no Via, so the search goes on with the next one
pub lines-preserved : goal.lines-preserved
lines-preserved c =
    let rest = c.lines.rest.now in
    let first = c.in_ok-end.ensures in
    let end = c.in_ok-end.end in
    let left = drop (end + 1) rest in
    let opens = sym (ap opens_via (take_rest rest (end + 1))) ∙ sym c.opens_via.ensures ∙ c.if-opens_via.false in (
      -- the search in the whole text is that after this line end, and less is left than before
      c.lines.invariant.0 ∙ next_line end rest first.0.high first.0.before first.1 ∙ ap (λ is. if is then Some left else via_line left) opens ∙ ap via_line (sym (take_rest rest (end + 1))),
      omega (arith, ap length (take_rest rest (end + 1)), length-drop (end + 1) rest, c.lines.invariant.1),
    )
