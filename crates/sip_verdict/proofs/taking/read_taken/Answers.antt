use Rattle.std.proofs.Common.{[], Some, subst, sym}
use Rattle.std.specs.Option.{option_copied}
use Rattle.sip_log.specs.Reading.{beside_source}
use Rattle.sip_verdict.specs.declared.reading.Next.TheVariants.{Entry}
use Rattle.sip_verdict.specs.inner.Taking.{TakenGives}
use Rattle.sip_verdict.proofs.surveys.parts.Ahead.{takes_ahead, gives_ahead}
use Rattle.sip_verdict.proofs.taking.read_taken.Goals as goal

-- fewer than the most entries were read where one more stands whole
pub pass-requires-clause-few : goal.pass-requires-clause-few
pass-requires-clause-few g c = (c.in-Some-ahead.ensures.comes []).1

-- the entry that is taken has the next number, and keeps the order and the limit of moments
pub returns-in-Some-ahead-clause-moves : goal.returns-in-Some-ahead-clause-moves
returns-in-Some-ahead-clause-moves g c =
    let taken = c.in_ok-entry.ensures in
    takes_ahead c.args.progress.now c.pass.new.self c.in-Some-ahead.ahead c.in-Some-ahead.ensures c.in_ok-entry.entry taken.number taken.moment c.pass.ensures

-- what was read is what was read before and this entry, which is taken as the part has it
pub returns-in-Some-ahead-clause-gives : goal.returns-in-Some-ahead-clause-gives
returns-in-Some-ahead-clause-gives g c = λ start times items read.
    -- `left` is what the source has left, and `failed` whether reading it has failed
    let taken = c.in_ok-entry.ensures in
    let left = g.R.Source.left c.args.reader.now in
    let failed = g.R.Source.has_failed c.args.reader.now in
    subst (λ part. TakenGives (option_copied part) start times items (beside_source c.pass.new.self left failed) (Entry c.in_ok-entry.entry)) (sym c.in-Some.is)
    (gives_ahead c.args.progress.now c.pass.new.self c.in-Some-ahead.ahead c.in-Some-ahead.ensures c.in_ok-entry.entry taken.number taken.moment c.pass.ensures
    c.in-Some.part.now start left failed times items read taken.taken)
