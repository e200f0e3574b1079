-- `Says-fault` and `Says-step` take what comes by the bytes that are held and those left, ys, to the whole input: a fault, and what an inner call answers.
-- `ComesSecond-..` say what comes after line 1: a fault, where no line ends or the line tells no times within their limits; or what comes after line 2.
use Rattle.std.proofs.Common.{◌+◌, inl, inr, drop}
use Rattle.sip_standard.specs.declared.log_reason.LogReason.TheVariants as faults
use Rattle.sip_log.specs.inner.Header.{ComesSecond, ComesThird}
use Rattle.sip_log.specs.Next.{gives}
use Rattle.sip_log.specs.inner.Window.{items}
use Rattle.sip_log.proofs.answers.SaysLemmas.{Says-step, Says-fault}
use Rattle.sip_log.proofs.answers.ToldLemmas.{none_left}
use Rattle.sip_log.proofs.headers.HeaderLemmas.{ComesSecond-none, ComesSecond-other, ComesSecond-times}
use Rattle.sip_log.proofs.header.read_second.Goals as goal

-- where the second line does not end within the most bytes that it can have, the fault is that of the header
pub returns-in_default : goal.returns-in_default
returns-in_default g c =
    let line = c.in_ok-len.ensures in
    let held = items c.line_len.new.self in
    Says-fault line.reads (ComesSecond c.args.format) faults.Header
    (λ ys left. ComesSecond-none c.args.format held ys (rw c.in_default.is at line.first)
    (elim (line.none c.in_default.is) [ inl many ↦ inl many | inr end ↦ inr (none_left _ ys left end) ]))

-- where the line tells no times, the fault is that of the header
pub returns-in_default-read_times : goal.returns-in_default-read_times
returns-in_default-read_times g c =
    let line = c.in_ok-len.ensures in
    let held = items c.line_len.new.self in
    Says-fault line.reads (ComesSecond c.args.format) faults.Header
    (λ ys left. ComesSecond-other c.args.format held ys c.in-Some.len (rw c.in-Some.is at line.first)
    (rw c.as_slice.ensures.value at c.in_default-read_times.ensures))

-- where the second line tells times, what comes is what comes after it
pub returns : goal.returns
returns g c =
    let line = c.in_ok-len.ensures in
    let held = items c.line_len.new.self in
    let times = rw c.as_slice.ensures.value at c.in-Some-read_times.ensures in
    Says-step line.reads (ComesSecond c.args.format) (drop (c.in-Some.len + 1) held) _ _ (ComesThird c.args.format c.in-Some-read_times.times) gives c.read_third.result
    (λ ys next left third. ComesSecond-times c.args.format held ys c.in-Some.len (rw c.in-Some.is at line.first) _ next times.0 times.1 third)
    (rw (← c.consume.ensures) c.read_third.ensures)
