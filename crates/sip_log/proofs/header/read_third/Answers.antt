-- `Says-value` takes what comes by the bytes that are held and those left, ys, to the whole input.
-- `ComesThird-..` say where the header ends: at the end of the input, before what is no line of rules, or after one.
use Rattle.std.proofs.Common.{length, get_or, drop, ap, ◌∙◌, arith}
use Rattle.std.proofs.lemmas.List.{length-append}
use Rattle.sip_times.specs.Times.{under}
use Rattle.sip_log.specs.inner.Header.{ComesThird}
use Rattle.sip_log.specs.Next.{gives}
use Rattle.sip_log.specs.inner.Window.{items}
use Rattle.sip_log.proofs.answers.SaysLemmas.{Says-value}
use Rattle.sip_log.proofs.answers.ToldLemmas.{none_left, Reads-then}
use Rattle.sip_log.proofs.headers.HeaderLemmas.{ComesThird-end, ComesThird-other, ComesThird-unruled, ComesThird-rules}
use Rattle.sip_log.proofs.header.read_third.Goals as goal

-- where the log ends after its second line, the header ends there
pub returns-then-not-branch : goal.returns-then-not-branch
returns-then-not-branch g c =
    -- p is the times, and `held` what the window holds of the input, which ends there
    let p = c.args.times in
    let hold = c.in_ok-hold.ensures in
    let held = items c.hold.new.self in
    let end = hold.none c.if-not-branch.true in
    Says-value hold.reads (ComesThird c.args.format p) held (gives (c.args.format, p))
    (λ ys left.
    let none = none_left _ ys left end.1 in
    ComesThird-end c.args.format p c.requires _ (omega (arith, length-append held ys, ap length none, end.0)))

-- where the next line does not begin with `r`, it is no line of rules, and the header ends before it
pub returns-then-as_slice-ne114 : goal.returns-then-as_slice-ne114
returns-then-as_slice-ne114 g c =
    -- p are the times of the header, and held the bytes that are held for the line, of which the first is no `r`
    let p = c.args.times in
    let hold = c.in_ok-hold.ensures in
    let held = items c.hold.new.self in
    Says-value hold.reads (ComesThird c.args.format p) held (gives (c.args.format, p))
    (λ ys left.
    ComesThird-other c.args.format p c.requires held ys (hold.some c.if-not-branch.false)
    (λ is. c.if-as_slice-ne114.true (ap (λ (t : _). get_or t 0 0) c.as_slice.ensures.value ∙ is)))

-- where the log ends before a line of rules would, the header ends after its second line
pub returns-then-not-branch-2 : goal.returns-then-not-branch-2
returns-then-not-branch-2 g c =
    -- p is the times, and `held` what the window holds of the input, which ends there
    let p = c.args.times in
    let hold = c.in_ok-hold-2.ensures in
    let held = items c.hold-2.new.self in
    let end = hold.none c.if-not-branch-2.true in
    Says-value (Reads-then c.in_ok-hold.ensures.reads hold.reads) (ComesThird c.args.format p) held (gives (c.args.format, p))
    (λ ys left.
    let none = none_left _ ys left end.1 in
    ComesThird-end c.args.format p c.requires _ (omega (arith, length-append held ys, ap length none, end.0)))

-- where the next line is no line of rules, the header ends before it
pub returns-in_default : goal.returns-in_default
returns-in_default g c =
    let p = c.args.times in
    let hold = c.in_ok-hold-2.ensures in
    let held = items c.hold-2.new.self in
    Says-value (Reads-then c.in_ok-hold.ensures.reads hold.reads) (ComesThird c.args.format p) held (gives (c.args.format, p))
    (λ ys left.
    ComesThird-unruled c.args.format p c.requires held ys (hold.some c.if-not-branch-2.false) (rw c.as_slice-2.ensures.value at c.in_default.ensures))

-- where the next line is one of rules, the header ends after it and has these rules
pub returns : goal.returns
returns g c =
    -- p is the times, and `held` what the window holds: its line has the rules, and ends after 11 bytes
    let p = c.args.times in
    let hold = c.in_ok-hold-2.ensures in
    let held = items c.hold-2.new.self in
    let rules = c.in-Some.rules in
    rw c.consume.ensures
    (rw c.with_rules.ensures.value
    (Says-value (Reads-then c.in_ok-hold.ensures.reads hold.reads) (ComesThird c.args.format p) (drop 11 held) (gives (c.args.format, under rules p))
    (λ ys left. ComesThird-rules c.args.format p held ys rules (rw c.as_slice-2.ensures.value at c.in-Some.ensures))))
