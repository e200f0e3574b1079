-- l is how the loop stands; `old` and `new` are how far the log was read before the next entry and after it. `told` is what was told so far; `before`,
-- `mid` and `after` are what was written at first, so far, and with the last line.
use Rattle.std.proofs.Common.{◌≡◌, ◌+◌, ◌∙◌, List, [], ◌++◌, refl, sym, subst, rules, arith}
use Rattle.std.specs.Io.KnownBytes.{Appends}
use Rattle.std.specs.Option.{option_copied}
use Rattle.std.proofs.lemmas.Option.{same_Some}
use Rattle.sip_log.specs.Reading as log
use Rattle.sip_log.specs.Reading.{beside_source}
use Rattle.sip_verdict.specs.declared.finding.Finding.{Finding}
use Rattle.sip_verdict.specs.declared.survey_end.SurveyEnd.TheVariants.{LogFault}
use Rattle.sip_verdict.specs.SurveyText.{end_text}
use Rattle.sip_verdict.specs.inner.SurveyingLogs.{AreLinesBy}
use Rattle.sip_verdict.proofs.surveys.written.Writing.{told_none, told_nothing, told_more, summed, surveys_on, surveys_end, surveys_stop}
use Rattle.sip_verdict.proofs.surveying.write_entries.Goals as goal

-- before the first entry nothing was found or written
pub loop-found-init : goal.loop-found-init
loop-found-init g c = record {
  -- neither reader nor writer has failed since, and survey and log stand at the same place
  read = refl;
  written = refl;
  at = c.requires.at;
  counts_are = sym c.requires.first;
  -- no finding and no line was told
  told = (
    [],
    [],
    told_none c.none-counts.result (g.W.Sink.written c.args.writer.now) c.none-counts.ensures.0 c.none-counts.ensures.1,
    λ start reads.
        told_nothing (option_copied c.args.part) c.args.survey.now start (beside_source c.args.progress.now (g.R.Source.left c.args.reader.now) (g.R.Source.has_failed c.args.reader.now)) reads,
  );
}

-- the entry has the next number, it is not before the newest one, its moment is within the limit, and there is room for it
pub entry-requires : goal.entry-requires
entry-requires g c = λ goes_on.
    let l = c.loop-found in
    let moves = rw c.in-Entry.is at c.in_ok-entry.ensures.moves in
    let number = moves.1 in
    -- the survey has counted the entries
    let counts = l.invariant.at.counts in
    let newest = l.invariant.at.newest in
    let order = moves.2 in
    let high = moves.3 in
    let room = l.invariant.at.room in
    let low = moves.6 in
    -- all of this follows by arithmetic from how the reader has moved on
    record { next = omega (arith, number, counts); order = omega (arith, newest, order); limit = high; room = (omega (arith, counts, low), omega (arith, room, low)) }

-- after one entry more, the lines are those of all findings so far, and the survey stands after the entries that were read
pub loop-found-preserved : goal.loop-found-preserved
loop-found-preserved g c =
    let l = c.loop-found in
    let part = option_copied c.args.part in
    let old : log.ReaderState = beside_source l.progress (g.R.Source.left l.reader) (g.R.Source.has_failed l.reader) in
    let new : log.ReaderState = beside_source c.read_taken.new.progress (g.R.Source.left c.read_taken.new.reader) (g.R.Source.has_failed c.read_taken.new.reader) in
    let moves = rw c.in-Entry.is at c.in_ok-entry.ensures.moves in
    -- what the calls of the loop did: an entry was taken, and its lines were put
    let taken = c.in_ok-entry-in-Entry.ensures in
    let put = c.in_ok-counts-in-Entry.ensures in
    let items : List Finding = c.entry.new.found.items in
    let lines : c.as_slice.result.now ≡ items = search rules in
    let told = l.invariant.told in
    -- what the loop keeps holds again
    record {
      read = c.in_ok-entry.ensures.ok ∙ l.invariant.read;
      written = put.fine ∙ l.invariant.written;
      at = record {
        on = moves.0;
        -- the survey has not failed, since it took the entry
        goes_on = search rules;
        -- the count and the newest moment are those of the entries that were read
        counts = taken.newest.0 ∙ sym moves.4;
        newest = taken.newest.1 ∙ sym moves.5;
        few = (let number = moves.1 in let count = moves.4 in let low = moves.6 in omega arith);
        room = (let number = moves.1 in let count = moves.4 in let more = taken.keys in let room = l.invariant.at.room in omega arith);
      };
      counts_are = sym taken.newest.0;
      -- the findings and the lines are those before and those at this entry
      told = (
        told.0 ++ items,
        told.1 ++ put.text.0,
        -- lines and counts are those before and those of this entry
        told_more told.0 items told.1 put.text.0 l.counts c.in_ok-counts-in-Entry.counts (g.W.Sink.written c.args.writer.now) (g.W.Sink.written l.writer) (g.W.Sink.written c.put_findings.new.writer) told.2
            (search rules) put.text.1,
        -- what was read and taken is told on
        λ start reads.
            let so = told.3 start reads in
            let read = so.read in
            let more = (rw c.in-Entry.is at c.in_ok-entry.ensures.gives) start l.survey.tables.times read.items read.read in
            surveys_on part start old l.survey told.0 told.1 so more.0 c.in-Entry.entry new more.1 more.2 c.entry.new.self taken.times items
            (rw c.clear.ensures.items at taken.found) put.text.0 (subst (λ fs. AreLinesBy c.entry.new.self fs put.text.0) lines put.text.2),
      );
    }

-- where the log ends, the summary and the last line tell all its entries
pub returns-in-End-clause-surveyed : goal.returns-in-End-clause-surveyed
returns-in-End-clause-surveyed g c =
    let l = c.loop-found in
    let part = option_copied c.args.part in
    let old : log.ReaderState = beside_source l.progress (g.R.Source.left l.reader) (g.R.Source.has_failed l.reader) in
    -- what the survey told so far
    let told = l.invariant.told in
    let before = g.W.Sink.written c.args.writer.now in
    let mid = g.W.Sink.written l.writer in
    let after = g.W.Sink.written c.finish.new.writer in
    -- the last line tells the end of the log
    summed c.finish.result l.counts c.unwrap.result c.finish.ensures.sums c.finish.ensures.text (λ summary end findings undecided last start reads.
    let so = told.3 start reads in
    let read = so.read in
    let logs = (rw c.in-End.is at c.in_ok-entry.ensures.gives) start l.survey.tables.times read.items read.read in
    -- the end that is told counts the entries and transactions that were taken
    let is = same_Some _ _ (sym c.unwrap.ensures ∙ c.end.ensures.clean read.es read.follows) in
    surveys_end part start old l.survey told.0 told.1 so l.counts summary before mid after told.2 findings undecided (end ∙ is) (subst (λ e. Appends mid after (end_text e l.counts.findings)) is last) logs)

-- where the next entry cannot be read, the survey ends with that fault
pub returns-in-Fault-clause-surveyed : goal.returns-in-Fault-clause-surveyed
returns-in-Fault-clause-surveyed g c =
    let l = c.loop-found in
    let part = option_copied c.args.part in
    let old : log.ReaderState = beside_source l.progress (g.R.Source.left l.reader) (g.R.Source.has_failed l.reader) in
    -- what the survey told so far
    let told = l.invariant.told in
    let before = g.W.Sink.written c.args.writer.now in
    let mid = g.W.Sink.written l.writer in
    let after = g.W.Sink.written c.finish-in-Fault.new.writer in
    -- the last line tells the fault of the entry
    summed c.finish-in-Fault.result l.counts (LogFault (l.count + 1) c.in-Fault.reason) c.finish-in-Fault.ensures.sums c.finish-in-Fault.ensures.text (λ summary end findings undecided last start reads.
    let so = told.3 start reads in
    let read = so.read in
    surveys_stop part start old l.survey told.0 told.1 so l.counts summary before mid after told.2 findings undecided l.count c.in-Fault.reason l.invariant.counts_are end last
    ((rw c.in-Fault.is at c.in_ok-entry.ensures.gives) start l.survey.tables.times read.items read.read))
