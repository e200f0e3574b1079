-- `c.feeds.invariant`: .0, `from` lies within the bytes; .1, no CRLF CRLF begins before the byte that stands before `from`.
use Rattle.std.proofs.Common.{◌+◌, length, false, refl, sym, ap, subst, arith}
use Rattle.std.proofs.lemmas.Bool.{both_ways}
use Rattle.std.proofs.lemmas.List.{take_rest, length-drop}
use Rattle.memchr.specs.Find.{FindsNeedle}
use Rattle.sip_message.proofs.lemmas.lines.HeadEnd.{double_end, nowhere-double, none-before, first-double, none-more}
use Rattle.sip_message.proofs.stages.find_double_end.Goals as goal

-- where no empty line follows any line feed that is left, no CRLF CRLF stands in the bytes
pub returns-in_err-at : goal.returns-in_err-at
returns-in_err-at c =
    -- the bytes were looked through up to `from`, and what is left has no LF CR LF
    let text = c.args.bytes.now in
    subst (FindsNeedle text double_end 0) (sym c.from_residual.ensures)
    (nowhere-double text _ c.feeds.from c.feeds.invariant.0 (take_rest text c.feeds.from) c.feeds.invariant.1 c.in_err-at.ensures)

-- where a CR stands before the line feed that was found, the first CRLF CRLF begins at that CR
pub returns-then-is_behind_cr : goal.returns-then-is_behind_cr
returns-then-is_behind_cr c =
    -- the bytes were looked through up to `from`, and the LF CR LF that is found has a CR before it
    let text = c.args.bytes.now in
    let behind = c.if-is_behind_cr.ensures.0 refl in
    first-double text _ c.feeds.from c.in_ok-at.field-0 c.feeds.invariant.0 (take_rest text c.feeds.from) c.feeds.invariant.1 c.in_ok-at.ensures.0 c.in_ok-at.ensures.1 behind.0 behind.1

-- the line feed that was found ends no empty line, so the search goes on after it
pub feeds-preserved : goal.feeds-preserved
feeds-preserved c =
    -- the search goes on one byte after the place that was found
    let text = c.args.bytes.now in
    let rest_is = take_rest text c.feeds.from in (
      omega (arith, c.in_ok-at.ensures.1.fits, ap length rest_is, length-drop c.feeds.from text, c.feeds.invariant.0),
      none-more text (c.feeds.from + c.in_ok-at.field-0) (none-before text _ c.feeds.from c.in_ok-at.field-0 c.feeds.invariant.0 rest_is c.feeds.invariant.1 c.in_ok-at.ensures.0)
          (λ is. both_ways false refl (c.if-is_behind_cr.ensures.1 is)),
    )
