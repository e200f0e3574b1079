-- In the proofs h is any head that the line may be read as, and `is` says that the code keeps of it what it was given; `none` says that nothing is answered.
use Rattle.std.proofs.Common.{◌≤◌, ◌+◌, ◌++◌, drop, refl, subst, sym, ap, ◌∙◌, rules, arith}
use mathlib.Core.Bool.{true≢false}
use Rattle.sip_log.specs.Ahead.{item_ahead}
use Rattle.sip_log.specs.Next.{gives}
use Rattle.sip_log.specs.inner.Entry.{HeadComes}
use Rattle.sip_log.specs.inner.Line.{message, plain, head_of, moment_of, KeepsLimits}
use Rattle.sip_log.proofs.lines.AheadLemmas.{HeadComes-ahead, Outside-without, Early-without, Missing-without, Plain-without}
use Rattle.sip_log.proofs.ahead.head_ahead.Goals as goal

-- where the line is outside the limits, no entry comes
pub returns-then-not-is_within_limits-clause-without : goal.returns-then-not-is_within_limits-clause-without
returns-then-not-is_within_limits-clause-without c = λ none h is.
    Outside-without c.args.last c.args.head h is c.args.rest.now (λ keeps. true≢false (sym (c.if-not-is_within_limits.ensures.1 keeps)))

-- where its moment is before the last one, no entry comes
pub returns-then-moment-last-clause-without : goal.returns-then-moment-last-clause-without
returns-then-moment-last-clause-without c = λ none h is.
    Early-without c.args.last c.args.head h is c.args.rest.now (c.if-not-is_within_limits.ensures.0 refl) (omega (arith, c.if-moment-last.true, c.moment.ensures))

-- where the message does not stand whole after the line, no entry comes
pub returns-in_err-message-in-Message-clause-without : goal.returns-in_err-message-in-Message-clause-without
returns-in_err-message-in-Message-clause-without c = λ none h is.
    let action = c.in-Message.action in
    let moment = c.in-Message.moment in
    let keeps : KeepsLimits (message action moment c.in-Message.len) = subst (λ x. KeepsLimits (head_of x)) c.in-Message.is (c.if-not-is_within_limits.ensures.0 refl) in
    let order : c.args.last ≤ moment = omega (arith, c.if-moment-last.false, c.moment.ensures ∙ ap (λ x. moment_of (head_of x)) c.in-Message.is) in
    -- what is missing after the line is told as a fault by `message_ahead`
    Missing-without c.args.last action moment c.in-Message.len c.args.rest.now keeps order (c.in_err-message-in-Message.ensures.none refl) h (sym c.in-Message.is ∙ is)

-- a line of an entry without a message brings that entry
pub returns-in-Plain-clause-without : goal.returns-in-Plain-clause-without
returns-in-Plain-clause-without c = λ none h is.
    let moment = c.in-Plain.field-1 in
    let keeps : KeepsLimits (plain c.in-Plain.field-0 moment) = subst (λ x. KeepsLimits (head_of x)) c.in-Plain.is (c.if-not-is_within_limits.ensures.0 refl) in
    let order : c.args.last ≤ moment = omega (arith, c.if-moment-last.false, c.moment.ensures ∙ ap (λ x. moment_of (head_of x)) c.in-Plain.is) in
    Plain-without c.args.last c.in-Plain.field-0 moment c.args.rest.now keeps order h (sym c.in-Plain.is ∙ is)

-- where the line keeps the limits and the order, and the message is there, the entry comes by the line
pub returns-in_ok-message-in-Message-clause-comes :
    goal.returns-in_ok-message-in-Message-clause-comes
returns-in_ok-message-in-Message-clause-comes c = λ h is more.
    let action = c.in-Message.action in
    let moment = c.in-Message.moment in
    let len = c.in-Message.len in
    let rest = c.args.rest.now in
    let text = c.in_ok-message-in-Message.message.now in
    let found = c.in_ok-message-in-Message.ensures in
    -- the numbers are those of the line
    let keeps : KeepsLimits (message action moment len) = subst (λ x. KeepsLimits (head_of x)) c.in-Message.is (c.is_within_limits.ensures.0 (search rules)) in
    let order : c.args.last ≤ moment = omega (arith, c.if-moment-last.false, c.moment.ensures ∙ ap (λ x. moment_of (head_of x)) c.in-Message.is) in
    -- the message has as many bytes as the line says, so what is left is what stands after them and the line feed
    subst (λ n. HeadComes c.args.last h (rest ++ more) (gives (item_ahead action moment text) (drop (n + 1) rest ++ more))) (sym found.long)
    (HeadComes-ahead c.args.last action moment len rest text keeps order (λ ys. found.comes action moment ys) h (sym c.in-Message.is ∙ is) more)
