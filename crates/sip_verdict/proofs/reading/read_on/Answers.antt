-- In the proofs `old` is how far the log was read before the call, once its entries are counted anew, and `new` how far after it; `anew` says that the same
-- entries were read still.
use Rattle.std.proofs.Common.{◌≡◌, refl, sym, subst}
use Rattle.std.specs.Prelude.{ℕ, List, Option, Bool}
use Rattle.sip_standard.specs.LogEntry.{Item}
use Rattle.sip_standard.specs.Times.{Times}
use Rattle.sip_log.specs.Reading as log
use Rattle.sip_log.specs.Reading.{ProgressState, beside_source}
use Rattle.sip_log.proofs.answers.StreamLemmas.{HasStreamed, streams_entry, streams_end}
use Rattle.sip_verdict.proofs.listings.StreamingLemmas.{counted_anew, streams_on, stream_fault}
use Rattle.sip_verdict.proofs.reading.read_on.Goals as goal

-- the reader has gone on by one entry, where any number may come
pub returns-in-Ok-Some-clause-moves : goal.returns-in-Ok-Some-clause-moves
returns-in-Ok-Some-clause-moves g c =
    streams_on c.args.count c.args.progress.now c.count_anew.new.self c.next_into.new.self (g.R.Source.left c.args.reader.now) (g.R.Source.has_failed c.args.reader.now)
    (g.R.Source.left c.next_into.new.source) (g.R.Source.has_failed c.next_into.new.source) c.count_anew.ensures c.requires.on c.in-Ok-Some.entry _ refl refl refl (rw c.in-Ok-Some.field-0-is at c.in-Ok-Some.ensures)

-- the entry that comes is the next one of the log
pub returns-in-Ok-Some-clause-gives : goal.returns-in-Ok-Some-clause-gives
returns-in-Ok-Some-clause-gives g c start times items read =
    let old : log.ReaderState = beside_source c.count_anew.new.self (g.R.Source.left c.args.reader.now) (g.R.Source.has_failed c.args.reader.now) in
    let new : log.ReaderState = beside_source c.next_into.new.self (g.R.Source.left c.next_into.new.source) (g.R.Source.has_failed c.next_into.new.source) in
    let anew = counted_anew c.args.progress.now c.count_anew.new.self (g.R.Source.left c.args.reader.now) (g.R.Source.has_failed c.args.reader.now) c.count_anew.ensures start times items read in
    streams_entry start times items old new anew.0 anew.1 c.in-Ok-Some.entry (rw c.in-Ok-Some.field-0-is at c.in-Ok-Some.ensures)

-- where no entry comes, the log ends after those that were read
pub returns-in-Ok-None-clause-gives : goal.returns-in-Ok-None-clause-gives
returns-in-Ok-None-clause-gives g c start times items read =
    let old : log.ReaderState = beside_source c.count_anew.new.self (g.R.Source.left c.args.reader.now) (g.R.Source.has_failed c.args.reader.now) in
    let new : log.ReaderState = beside_source c.next_into.new.self (g.R.Source.left c.next_into.new.source) (g.R.Source.has_failed c.next_into.new.source) in
    let anew = counted_anew c.args.progress.now c.count_anew.new.self (g.R.Source.left c.args.reader.now) (g.R.Source.has_failed c.args.reader.now) c.count_anew.ensures start times items read in
    streams_end start times items old new anew.0 anew.1 (rw c.in-Ok-None.field-0-is at c.in-Ok-None.ensures)

-- where the next entry cannot be read, its fault is that of the log
pub returns-in_ok-reason_of-in-Err-clause-gives : goal.returns-in_ok-reason_of-in-Err-clause-gives
returns-in_ok-reason_of-in-Err-clause-gives g c start times items read =
    let old : log.ReaderState = beside_source c.count_anew.new.self (g.R.Source.left c.args.reader.now) (g.R.Source.has_failed c.args.reader.now) in
    let new : log.ReaderState = beside_source c.next_into.new.self (g.R.Source.left c.next_into.new.source) (g.R.Source.has_failed c.next_into.new.source) in
    let anew = counted_anew c.args.progress.now c.count_anew.new.self (g.R.Source.left c.args.reader.now) (g.R.Source.has_failed c.args.reader.now) c.count_anew.ensures start times items read in
    (stream_fault start times items old new anew.0 anew.1 c.in-Err.error c.in_ok-reason_of-in-Err.field-0 c.in_ok-reason_of-in-Err.ensures c.in-Err.ensures).1
