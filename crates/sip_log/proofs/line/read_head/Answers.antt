use Rattle.std.proofs.Common.{◌≡◌, get_or, refl, sym, arith}
use mathlib.Core.Bool.{true≢false}
use Rattle.std.proofs.lemmas.List.{take_rest}
use Rattle.sip_log.specs.inner.Spelling.{space}
use Rattle.sip_log.specs.inner.Line.{message, plain}
use Rattle.sip_log.proofs.lines.LineLemmas.{HeadLine-plain, HeadLine-message, HeadLine-unlettered, HeadLine-no_numbers, HeadLine-no_number}
use Rattle.sip_log.proofs.line.read_head.Goals as goal

-- where the line does not begin with the letter of an action, it is no entry's line
pub returns-in_err-action : goal.returns-in_err-action
returns-in_err-action c = rw c.from_residual.ensures (HeadLine-unlettered c.args.format c.args.line.now c.in_err-action.ensures)

-- where a moment and a length do not follow the letter of a message, the line is no entry's line
pub returns-in_err-moment : goal.returns-in_err-moment
returns-in_err-moment c =
    let line = c.args.line.now in
    rw c.from_residual-in_err-moment.ensures
    (HeadLine-no_numbers c.args.format line c.in_ok-action.action (c.if-has_message.ensures.0 refl) c.in_ok-action.ensures.1 (rw (take_rest line 2) at c.in_err-moment.ensures))

-- where the action has a message, the line tells a moment and a length
pub returns-then-has_message : goal.returns-then-has_message
returns-then-has_message c =
    let line = c.args.line.now in
    let action = c.in_ok-action.action in
    let blank : get_or line 1 0 ≡ space = omega arith in
    -- `is.0` is the moment and is.1 the length, and is.2 says that they follow the letter and its blank
    let is = rw (take_rest line 2) at c.in_ok-moment.ensures in (
      message action is.0 is.1,
      HeadLine-message c.args.format line action is.0 is.1 (c.if-has_message.ensures.0 refl) c.in-32.len_at_least c.in_ok-action.ensures.1 blank is.2,
      cc,
    )

-- where what follows the action is no number, the line tells nothing
pub returns-in_err-moment-2 : goal.returns-in_err-moment-2
returns-in_err-moment-2 c =
    let line = c.args.line.now in
    rw c.from_residual-in_err-moment-2.ensures
    (HeadLine-no_number c.args.format line c.in_ok-action.action (λ has. true≢false (sym (c.if-has_message.ensures.1 has))) c.in_ok-action.ensures.1 (rw (take_rest line 2) at c.in_err-moment-2.ensures))

-- where the action has no message, the line tells a moment alone
pub returns : goal.returns
returns c =
    let line = c.args.line.now in
    let action = c.in_ok-action.action in
    let blank : get_or line 1 0 ≡ space = omega arith in
    -- `is.0` is the moment, and is.1 says that it follows the letter and its blank
    let is = rw (take_rest line 2) at c.in_ok-moment-2.ensures in (
      plain action is.0,
      HeadLine-plain c.args.format line action is.0 (λ has. true≢false (sym (c.if-has_message.ensures.1 has))) c.in_ok-action.ensures.0 c.in-32.len_at_least c.in_ok-action.ensures.1 blank is.1,
      cc,
    )
