use Rattle.std.proofs.Common.{◌+◌, [], Some, refl, subst, sym}
use Rattle.std.specs.Option.{option_copied}
use Rattle.sip_log.specs.declared.entry.Entry.{Entry as EntryValue}
use Rattle.sip_log.specs.Reading.{beside_source}
use Rattle.sip_verdict.specs.declared.reading.Next.TheVariants.{Entry}
use Rattle.sip_verdict.specs.inner.Taking.{StreamTaken}
use Rattle.sip_verdict.proofs.surveys.parts.Ahead.{takes_ahead_on, gives_ahead_on}
use Rattle.sip_verdict.proofs.taking.read_on_taken.Goals as goal

-- fewer than the most entries were read where one more stands whole
pub pass-requires-clause-few : goal.pass-requires-clause-few
pass-requires-clause-few g c = (c.in-Some-ahead.ensures.comes []).1

-- the entry that is taken has the next number, and keeps the order and the limit of moments
pub returns-in-Some-ahead-clause-moves : goal.returns-in-Some-ahead-clause-moves
returns-in-Some-ahead-clause-moves g c =
    -- the entry as it is answered
    let taken_on : EntryValue = record { number = c.args.count + 1; moment = c.in_ok-entry.entry.moment; action = c.in_ok-entry.entry.action; bytes = c.in_ok-entry.entry.bytes } in
    let taken = c.in_ok-entry.ensures in
    takes_ahead_on c.args.progress.now c.count_anew.new.self c.pass.new.self c.count_anew.ensures c.in-Some-ahead.ahead c.in-Some-ahead.ensures taken_on c.args.count refl taken.moment c.pass.ensures

-- what was read is what was read before and this entry, which is taken as the part has it
pub returns-in-Some-ahead-clause-gives : goal.returns-in-Some-ahead-clause-gives
returns-in-Some-ahead-clause-gives g c = λ start times items read.
    -- `left` is what the source has left, and `failed` whether reading it has failed
    let taken = c.in_ok-entry.ensures in
    let left = g.R.Source.left c.args.reader.now in
    let failed = g.R.Source.has_failed c.args.reader.now in
    -- the entry as it is answered
    let taken_on : EntryValue = record { number = c.args.count + 1; moment = c.in_ok-entry.entry.moment; action = c.in_ok-entry.entry.action; bytes = c.in_ok-entry.entry.bytes } in
    subst (λ part. StreamTaken (option_copied part) start times items (beside_source c.pass.new.self left failed) (Entry taken_on)) (sym c.in-Some.is)
    (gives_ahead_on c.args.progress.now c.count_anew.new.self c.pass.new.self c.count_anew.ensures c.in-Some-ahead.ahead c.in-Some-ahead.ensures taken_on c.args.count refl taken.moment c.pass.ensures
    c.in-Some.part.now start left failed times items read taken.taken)
