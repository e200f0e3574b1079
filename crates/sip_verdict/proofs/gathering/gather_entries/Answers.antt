-- l is how the loop stands, `old` and `new` how far the log was read before the next entry and after it, and `start` the input.
use Rattle.std.proofs.Common.{◌∙◌, None, refl, sym, subst, rules, arith}
use Rattle.std.proofs.lemmas.Option.{same_Some}
use Rattle.sip_log.specs.Reading as log
use Rattle.sip_log.specs.Reading.{beside_source}
use Rattle.sip_verdict.specs.inner.SurveyingLogs.{SurveysRead}
use Rattle.sip_verdict.proofs.surveys.written.Gathering.{gathered_on, gathered_end, gathered_stop}
use Rattle.sip_verdict.proofs.gathering.gather_entries.Goals as goal

-- no entry was read yet
pub loop-found-init : goal.loop-found-init
loop-found-init g c = record {
  -- no read has failed since, survey and log stand at the same place, and nothing is found yet
  fine = refl;
  at = c.requires.at;
  counts_are = sym c.requires.first;
  told = λ start reads. subst (λ fs. SurveysRead None c.args.survey.now fs start (beside_source c.args.progress.now (g.R.Source.left c.args.reader.now) (g.R.Source.has_failed c.args.reader.now))) (sym c.new-found.ensures.items) reads;
}

-- the entry has the next number, it is not before the newest one, its moment is within the limit, and there is room for it
pub entry-requires : goal.entry-requires
entry-requires g c = λ goes_on.
    let l = c.loop-found in
    let moves = rw c.in-Entry.is at c.in_ok-entry.ensures.moves in
    -- the survey has counted the entries, and its newest moment is that of the reader
    let number = moves.1.number_is in
    let counts = l.invariant.at.counts in
    let newest = l.invariant.at.newest in
    let order = moves.1.order in
    let room = l.invariant.at.room in
    let low = moves.4 in
    -- all of this follows by arithmetic from how the reader has moved on
    record { next = omega (arith, number, counts); order = omega (arith, newest, order); limit = moves.1.moment_high; room = (omega (arith, counts, low), omega (arith, room, low)) }

-- after one entry more the findings are those of all entries that were read, and the survey stands after these
pub loop-found-preserved : goal.loop-found-preserved
loop-found-preserved g c =
    let l = c.loop-found in
    let old : log.ReaderState = beside_source l.progress (g.R.Source.left l.reader) (g.R.Source.has_failed l.reader) in
    let new : log.ReaderState = beside_source c.read_next.new.progress (g.R.Source.left c.read_next.new.reader) (g.R.Source.has_failed c.read_next.new.reader) in
    -- the reader moved on over the entry, which was taken
    let moves = rw c.in-Entry.is at c.in_ok-entry.ensures.moves in
    let taken = c.in_ok-entry-in-Entry.ensures in
    record {
      fine = c.in_ok-entry.ensures.ok ∙ l.invariant.fine;
      at = record {
        on = moves.0;
        -- the survey has not failed, since it took the entry
        goes_on = search rules;
        -- the count, the newest moment and the room are those after the entry
        counts = taken.newest.0 ∙ sym moves.2;
        newest = taken.newest.1 ∙ sym moves.3;
        few = (let number = moves.1.number_is in let count = moves.2 in let low = moves.4 in omega arith);
        room = (let number = moves.1.number_is in let count = moves.2 in let more = taken.keys in let room = l.invariant.at.room in omega arith);
      };
      -- the findings are those before and those at this entry
      counts_are = sym taken.newest.0;
      told = λ start reads.
          let read = l.invariant.told start reads in
          let more = (rw c.in-Entry.is at c.in_ok-entry.ensures.gives) start l.survey.tables.times read.items read.read in
          gathered_on None start old l.survey l.found.items read c.in-Entry.entry c.in-Entry.entry new more refl c.entry.new.self taken.times c.entry.new.found.items taken.found;
    }

-- where the log ends, the findings are those of all its entries
pub returns-in-End-clause-survey : goal.returns-in-End-clause-survey
returns-in-End-clause-survey g c start reads =
    let l = c.loop-found in
    let old : log.ReaderState = beside_source l.progress (g.R.Source.left l.reader) (g.R.Source.has_failed l.reader) in
    let read = l.invariant.told start reads in
    let logs = (rw c.in-End.is at c.in_ok-entry.ensures.gives) start l.survey.tables.times read.items read.read in
    -- the end that is told counts the entries and transactions that were taken
    gathered_end None start old l.survey l.found.items read c.unwrap.result (same_Some _ _ (sym c.unwrap.ensures ∙ c.end.ensures.clean read.es read.follows)) logs

-- where the next entry cannot be read, the findings are those of the entries before it
pub returns-in-Fault-clause-survey : goal.returns-in-Fault-clause-survey
returns-in-Fault-clause-survey g c start reads =
    let l = c.loop-found in
    let old : log.ReaderState = beside_source l.progress (g.R.Source.left l.reader) (g.R.Source.has_failed l.reader) in
    let read = l.invariant.told start reads in
    gathered_stop None start old l.survey l.found.items read l.count c.in-Fault.reason l.invariant.counts_are ((rw c.in-Fault.is at c.in_ok-entry.ensures.gives) start l.survey.tables.times read.items read.read)
