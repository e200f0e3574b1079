-- `c.lines.invariant`: .0, the fields are those of the lines from `from` up to `at`; .1, what is kept is what these fields say.
use Rattle.std.proofs.Common.{◌+◌, refl, sym, subst}
use Rattle.sip_message.specs.inner.Views.{fields_parts}
use Rattle.sip_message.specs.inner.Asked.{AskedOf}
use Rattle.sip_message.proofs.QuickLemmas.{control-within, LinesSoFar, so_far-more}
use Rattle.sip_message.proofs.quick.ordinary_fields.Goals as goal

-- the next control stands within the text
pub is_line-requires-clause-within : goal.is_line-requires-clause-within
is_line-requires-clause-within c = control-within c.args.masks.now c.lines.at c.next_control-end.result c.lines.invariant.0.within c.next_control-end.ensures

-- a CR stands at the end of the line
pub push_ordinary-requires-clause-within : goal.push_ordinary-requires-clause-within
push_ordinary-requires-clause-within c = ((c.if-not-is_line.ensures.line refl).0, c.if-not-is_line.ensures.ends refl)

-- no control stands in the line
pub push_ordinary-requires-clause-clear : goal.push_ordinary-requires-clause-clear
push_ordinary-requires-clause-clear c = (c.if-not-is_line.ensures.line refl).2

-- after one line more, the fields are those of the lines up to it
pub lines-preserved : goal.lines-preserved
lines-preserved c =
    -- before are the fields so far, end is where the line ends, and more says which field was added
    let before = fields_parts c.lines.fields in
    let end = c.next_control-end.result in
    let line = c.if-not-is_line.ensures.line refl in
    let more = c.in_ok-push_ordinary.ensures c.if-not-branch.false in (
      subst (LinesSoFar c.args.masks.now c.args.from (end + 2)) (sym more.pushed)
          (so_far-more c.args.masks.now c.args.from c.lines.at end before more.field c.lines.invariant.0 line.1 line.2 line.3 more.is),
      subst (λ fs. AskedOf fs c.push_ordinary.new.asked) (sym more.pushed) (more.asks before c.lines.invariant.1),
    )
