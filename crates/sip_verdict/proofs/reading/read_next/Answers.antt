-- In each proof `old` is how far the log was read before the call, and `new` how far after it.
use Rattle.sip_log.specs.Reading as log
use Rattle.sip_log.specs.Reading.{beside_source}
use Rattle.sip_verdict.proofs.listings.WalkingLemmas.{gives_entry, gives_end, gives_fault}
use Rattle.sip_verdict.proofs.reading.read_next.Goals as goal

-- the reader gives an entry, which is the next one of the log
pub returns-in-Ok-Some-clause-gives : goal.returns-in-Ok-Some-clause-gives
returns-in-Ok-Some-clause-gives g c start times items read =
    let old : log.ReaderState = beside_source c.args.progress.now (g.R.Source.left c.args.reader.now) (g.R.Source.has_failed c.args.reader.now) in
    let new : log.ReaderState = beside_source c.next_into.new.self (g.R.Source.left c.next_into.new.source) (g.R.Source.has_failed c.next_into.new.source) in
    gives_entry start times items old new read c.in-Ok-Some.entry (rw c.in-Ok-Some.field-0-is at c.in-Ok-Some.ensures)

-- where no entry comes, the log ends after those that were read
pub returns-in-Ok-None-clause-gives : goal.returns-in-Ok-None-clause-gives
returns-in-Ok-None-clause-gives g c start times items read =
    let old : log.ReaderState = beside_source c.args.progress.now (g.R.Source.left c.args.reader.now) (g.R.Source.has_failed c.args.reader.now) in
    let new : log.ReaderState = beside_source c.next_into.new.self (g.R.Source.left c.next_into.new.source) (g.R.Source.has_failed c.next_into.new.source) in
    gives_end start times items old new read (rw c.in-Ok-None.field-0-is at c.in-Ok-None.ensures)

-- the reader tells a fault, which is where the log cannot be read on
pub returns-in_ok-reason_of-in-Err-clause-gives : goal.returns-in_ok-reason_of-in-Err-clause-gives
returns-in_ok-reason_of-in-Err-clause-gives g c start times items read =
    let old : log.ReaderState = beside_source c.args.progress.now (g.R.Source.left c.args.reader.now) (g.R.Source.has_failed c.args.reader.now) in
    let new : log.ReaderState = beside_source c.next_into.new.self (g.R.Source.left c.next_into.new.source) (g.R.Source.has_failed c.next_into.new.source) in
    (gives_fault start times items old new read c.in-Err.error c.in_ok-reason_of-in-Err.field-0 c.in_ok-reason_of-in-Err.ensures c.in-Err.ensures).1
