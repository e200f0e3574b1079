-- `Says-step` takes what an inner call tells of the bytes that are held and those left, ys, to the whole input: what comes by it is what comes first there.
use Rattle.std.proofs.Common.{◌<◌, ◌≤◌, length, Ok, Err, None, arith}
use Rattle.sip_log.specs.inner.Entry.{LineComes, EntryComes}
use Rattle.sip_standard.specs.LogSays.{most_entries}
use Rattle.sip_log.specs.Told.{entry_next}
use Rattle.sip_log.specs.inner.Window.{items}
use Rattle.sip_log.proofs.answers.SaysLemmas.{Says-step}
use Rattle.sip_log.proofs.lines.FrontLemmas.{ComesNext-entry}
use Rattle.sip_log.proofs.entry.next_entry.Goals as goal

-- where a byte is there, and the log is not too long, an entry comes, and it is read
pub returns-in-Ok-clause-says : goal.returns-in-Ok-clause-says
returns-in-Ok-clause-says g c =
    let hold = c.in_ok-hold.ensures in
    -- held are the bytes that are held for the line: there is one, and fewer entries were read than a log may have
    let held = items c.hold.new.self in
    let some : 1 ≤ length held = omega (arith, hold.some c.if-not-branch.false) in
    let few : c.args.count < most_entries = omega arith in
    Says-step hold.reads (EntryComes c.args.format c.args.count c.args.last) held _ _ (LineComes c.args.format c.args.last) entry_next (Ok c.in-Ok.entry)
    (λ ys next left at. ComesNext-entry c.args.format c.args.count c.args.last held ys next some few at)
    c.in-Ok.ensures.says

-- where a byte is there, and the log is not too long, an entry comes, and its fault is told
pub returns-in-Err-clause-says : goal.returns-in-Err-clause-says
returns-in-Err-clause-says g c =
    -- held are the bytes that are held for the line: there is one, and fewer entries were read than a log may have
    let hold = c.in_ok-hold.ensures in
    let held = items c.hold.new.self in
    let some : 1 ≤ length held = omega (arith, hold.some c.if-not-branch.false) in
    let few : c.args.count < most_entries = omega arith in
    Says-step hold.reads (EntryComes c.args.format c.args.count c.args.last) held None _ (LineComes c.args.format c.args.last) entry_next (Err c.in-Err.error)
    (λ ys next left at. ComesNext-entry c.args.format c.args.count c.args.last held ys next some few at)
    c.in-Err.ensures.says
