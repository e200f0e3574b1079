use Rattle.std.proofs.Common.{sym, subst}
use Rattle.sip_message.specs.inner.Fronts.{MarkFront, text_parts}
use Rattle.sip_message.proofs.lemmas.front.Cuts.{no-mark, one-mark}
use Rattle.sip_message.specs.inner.Only.{IsOnlyValue}
use Rattle.sip_message.proofs.cursor.past_mark.Goals as goal

-- where the mark does not stand after the blanks, no mark is read
pub returns-in_err-inner : goal.returns-in_err-inner
returns-in_err-inner c =
    subst (IsOnlyValue (MarkFront c.args.mark) text_parts c.args.text.now) (sym c.from_residual.ensures)
    (no-mark c.args.mark c.args.text.now c.skip_blanks.result.now c.requires c.skip_blanks.ensures (sym c.in_err-inner.ensures))

-- where the mark stands after the blanks, it is read with the blanks after it
pub returns : goal.returns
returns c =
    one-mark c.args.mark c.args.text.now c.skip_blanks.result.now c.in_ok-inner.inner.now c.skip_blanks-2.result.now c.requires
    c.skip_blanks.ensures (sym c.in_ok-inner.ensures) c.skip_blanks-2.ensures
