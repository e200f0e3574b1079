-- `Says-fault` and `Says-step` take what comes by the bytes that are held and those left, ys, to the whole input: a fault, and what an inner call answers.
-- `AtLine-..` say what comes by the line at the front: none that ends, one that is too long, one of no entry, or a head.
use Rattle.std.proofs.Common.{◌≡◌, ◌+◌, ◌<◌, ◌≤◌, inl, inr, [], length, drop, arith, ap}
use Rattle.sip_standard.specs.declared.log_reason.LogReason.TheVariants as faults
use Rattle.sip_log.specs.inner.Entry.{LineComes, HeadComes}
use Rattle.sip_log.specs.Told.{entry_next}
use Rattle.sip_log.specs.inner.Window.{items}
use Rattle.sip_log.proofs.answers.SaysLemmas.{Says-fault, Says-step}
use Rattle.sip_log.proofs.lines.FrontLemmas.{AtLine-truncated, AtLine-long, AtLine-other, AtLine-head}
use Rattle.sip_log.proofs.answers.ToldLemmas.{none_left}
use Rattle.sip_log.proofs.entry.read_entry.Goals as goal

-- where no line feed came up to the end, the log is cut off within the line
pub returns-then-as_slice-lt-LONGEST_LINE-clause-says : goal.returns-then-as_slice-lt-LONGEST_LINE-clause-says
returns-then-as_slice-lt-LONGEST_LINE-clause-says g c =
    -- held are the bytes that are held, which are fewer than a line may have, and none of them is a line feed
    let line = c.in_ok-len.ensures in
    let held = items c.line_len.new.self in
    let none = rw c.in_default.is at line.first in
    let few : length held < 32 = omega (arith, c.if-as_slice-lt-LONGEST_LINE.true, ap length c.as_slice.ensures.value) in
    Says-fault line.reads (LineComes c.args.format c.args.last) faults.Truncated
    (λ ys left. AtLine-truncated c.args.format c.args.last held ys none few
    (elim (line.none c.in_default.is) as (λ _. ys ≡ []) [ inl many ↦ absurd (omega arith) | inr end ↦ none_left _ ys left end ]))

-- where the longest line is held without a line feed, the fault is that of an entry's line
pub returns-in_default-clause-says : goal.returns-in_default-clause-says
returns-in_default-clause-says g c =
    let line = c.in_ok-len.ensures in
    let held = items c.line_len.new.self in
    let many : 32 ≤ length held = omega (arith, c.if-as_slice-lt-LONGEST_LINE.false, ap length c.as_slice.ensures.value) in
    Says-fault line.reads (LineComes c.args.format c.args.last) faults.EntryLine
    (λ ys left. AtLine-long c.args.format c.args.last held ys (rw c.in_default.is at line.first) many)

-- where the line has the form of no entry, the fault is that of an entry's line
pub returns-in_default-read_head-clause-says : goal.returns-in_default-read_head-clause-says
returns-in_default-read_head-clause-says g c =
    let line = c.in_ok-len.ensures in
    let held = items c.line_len.new.self in
    let within = rw c.in-Some.is at line.within in
    Says-fault line.reads (LineComes c.args.format c.args.last) faults.EntryLine
    (λ ys left. AtLine-other c.args.format c.args.last held ys c.in-Some.len within.1 (rw c.in-Some.is at line.first)
    (rw c.as_slice-2.ensures.value at c.in_default-read_head.ensures))

-- where the line is read, what comes is what comes after this line
pub returns-clause-says : goal.returns-clause-says
returns-clause-says g c =
    -- `held` is what the window holds: the line ends within it, and is read as `head`
    let line = c.in_ok-len.ensures in
    let held = items c.line_len.new.self in
    let within = rw c.in-Some.is at line.within in
    let head = rw c.as_slice-2.ensures.value at c.in-Some-read_head.ensures in
    Says-step line.reads (LineComes c.args.format c.args.last) (drop (c.in-Some.len + 1) held) _ _ (HeadComes c.args.last head.0) entry_next c.after_line.result
    (λ ys next left behind. AtLine-head c.args.format c.args.last held ys c.in-Some.len within.1 (rw c.in-Some.is at line.first) head.0 next head.1 behind)
    (rw (← c.consume.ensures) (c.after_line.ensures.says head.0 head.2))
