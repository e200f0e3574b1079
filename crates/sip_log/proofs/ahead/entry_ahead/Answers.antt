-- `Line-without` says that, with bytes held and fewer than the most entries read, no entry with a message comes where none comes by the front line.
-- `AtLine-other` and `AtLine-head` say what comes by that line, read as no entry's line or as a head; `held` is what the window holds.
use Rattle.std.proofs.Common.{◌≡◌, ◌<◌, ◌≤◌, ◌+◌, ◌++◌, [], length, drop, refl, subst, sym, ap, ◌∙◌, arith}
use Rattle.std.proofs.lemmas.List.{drop-drop, length-drop, take_rest, append-nil}
use Rattle.sip_standard.specs.declared.log_reason.LogReason.TheVariants as faults
use Rattle.sip_standard.specs.LogSays.{most_entries}
use Rattle.sip_log.specs.Ahead.{item_ahead}
use Rattle.sip_log.specs.Next.{gives, stops}
use Rattle.sip_log.specs.inner.Entry.{HeadComes}
use Rattle.sip_log.specs.inner.Window.{items}
use Rattle.sip_log.proofs.lines.AheadLemmas.{Full-without, NoLine-without, Line-without}
use Rattle.sip_log.proofs.lines.FrontLemmas.{AtLine-other, AtLine-head, ComesNext-entry}
use Rattle.sip_log.proofs.ahead.entry_ahead.Goals as goal

-- where the most entries were read, none comes
pub returns-then-count-ge-MOST_ENTRIES : goal.returns-then-count-ge-MOST_ENTRIES
returns-then-count-ge-MOST_ENTRIES c =
    Full-without c.args.format c.args.count c.args.last (items c.args.window.now) (omega (arith, c.if-count-ge-MOST_ENTRIES.true))

-- where no line is held, none comes
pub returns-in_err-len : goal.returns-in_err-len
returns-in_err-len c = rw c.from_residual.ensures
    (NoLine-without c.args.format c.args.count c.args.last (items c.args.window.now) (omega (arith, c.if-count-ge-MOST_ENTRIES.false)) c.in_err-len.ensures.first)

-- where the line has the form of no entry, none comes
pub returns-in_err-head : goal.returns-in_err-head
returns-in_err-head c =
    let held = items c.args.window.now in
    let line = c.in_ok-len.ensures in
    -- `other` says that the bytes before the line feed are the line of no entry
    let other = rw c.as_slice-held.ensures.value at c.in_err-head.ensures in
    rw c.from_residual-in_err-head.ensures
    (Line-without c.args.format c.args.count c.args.last held (omega (arith, line.within.0)) (omega (arith, c.if-count-ge-MOST_ENTRIES.false))
    (stops faults.EntryLine, AtLine-other c.args.format c.args.last held [] c.in_ok-len.len line.within.1 line.first other, tt))

-- where the line brings no message that stands whole, none comes
pub returns-in_err-moment : goal.returns-in_err-moment
returns-in_err-moment c =
    let held = items c.args.window.now in
    let line = c.in_ok-len.ensures in
    let len = c.in_ok-len.len in
    let head = rw c.as_slice-held.ensures.value at c.in_ok-head.ensures in
    -- `lacks` says of any head that the line may be read as: by it, where no bytes follow the window's, something comes that is no entry with a message
    let lacks = rw (take_rest held (len + 1)) at (rw c.as_slice-held.ensures.value at c.in_err-moment.ensures.without) in
    let next = lacks refl head.0 head.2 in
    let at : HeadComes c.args.last head.0 (drop (len + 1) held ++ []) next.0 = subst (λ xs. HeadComes c.args.last head.0 xs next.0) (sym (append-nil (drop (len + 1) held))) next.1 in
    -- what comes by the head comes by the line, and so it comes next
    rw c.from_residual-in_err-moment.ensures
    (Line-without c.args.format c.args.count c.args.last held (omega (arith, line.within.0)) (omega (arith, c.if-count-ge-MOST_ENTRIES.false))
    (next.0, AtLine-head c.args.format c.args.last held [] len line.within.1 line.first head.0 next.0 head.1 at, next.2))

-- where the line was read and the message is there, the entry comes next, whatever bytes come after the window's
pub returns : goal.returns
returns c =
    let held = items c.args.window.now in
    let line = c.in_ok-len.ensures in
    let len = c.in_ok-len.len in
    -- `head` is what the line is read as, and `found` says that the message stands whole after it
    let head = rw c.as_slice-held.ensures.value at c.in_ok-head.ensures in
    let found = rw (take_rest held (len + 1)) at (rw c.as_slice-held.ensures.value at c.in_ok-moment.ensures) in
    let text = c.in_ok-moment.message.now in
    let i = item_ahead c.in_ok-moment.action c.in_ok-moment.moment text in
    let size = len + length text + 2 in (
      refl,
      record {
        -- the message has a byte, and the entry lies within the bytes that are held
        some = λ none. omega (arith, found.some, ap length none);
        within = omega (arith, found.within, length-drop (len + 1) held, line.within.0);
        -- what is left after the entry is what stands after the message and its line feed
        comes = λ more.
            let same : drop (length text + 1) (drop (len + 1) held) ≡ drop size held = drop-drop (length text + 1) (len + 1) held ∙ ap (λ n. drop n held) (omega arith) in
            let some : 1 ≤ length held = omega (arith, line.within.0) in
            let few : c.args.count < most_entries = omega (arith, c.if-count-ge-MOST_ENTRIES.false) in
            let at : HeadComes c.args.last head.0 (drop (len + 1) held ++ more) (gives i (drop size held ++ more)) =
            subst (λ ys. HeadComes c.args.last head.0 (drop (len + 1) held ++ more) (gives i (ys ++ more))) same (found.comes head.0 head.2 more) in
            -- what comes by the head comes by the line, and what comes by the line comes next
            ComesNext-entry c.args.format c.args.count c.args.last held more _ some few
            (AtLine-head c.args.format c.args.last held more len line.within.1 line.first head.0 _ head.1 at);
      },
    )
