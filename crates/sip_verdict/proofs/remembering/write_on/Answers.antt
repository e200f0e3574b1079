-- l is how the loop stands, and p the times; `old` and `new` are how far the log was read before the next entry and after it. `told` is what was told so
-- far; `before`, `mid` and `after` are what was written at first, so far, and with the last line.
use Rattle.std.proofs.Common.{◌≡◌, ◌+◌, ◌∙◌, List, [], ◌++◌, length, false, refl, ap, sym, subst, rules, arith}
use Rattle.std.specs.Prelude.{IsTrue}
use Rattle.std.proofs.lemmas.Bool.{false≢true}
use Rattle.std.specs.Io.KnownBytes.{Appends}
use Rattle.std.specs.Option.{option_copied}
use Rattle.std.proofs.lemmas.Option.{same_Some}
use Rattle.sip_log.specs.Reading as log
use Rattle.sip_log.specs.Reading.{beside_source}
use Rattle.sip_verdict.specs.declared.finding.Finding.{Finding}
use Rattle.sip_verdict.specs.declared.survey_end.SurveyEnd.TheVariants.{LogFault}
use Rattle.sip_standard.specs.declared.log_reason.LogReason.TheVariants.{Limit}
use Rattle.sip_verdict.specs.Room.{HasRoom}
use Rattle.sip_verdict.specs.SurveyText.{end_text}
use Rattle.sip_verdict.specs.inner.SurveyingLogs.{AreLinesBy}
use Rattle.sip_verdict.proofs.surveys.written.Remembering.{remembers_on, remembers_end, remembers_full, remembers_stop}
use Rattle.sip_verdict.proofs.surveys.written.Writing.{told_none, told_more, summed}
use Rattle.sip_verdict.proofs.remembering.write_on.Goals as goal

-- before the first entry nothing was found, written or forgotten
pub loop-found-init : goal.loop-found-init
loop-found-init g c = record {
  -- neither reader nor writer has failed since, and survey and log stand at the same place
  read = refl;
  written = refl;
  at = c.requires.at;
  few = omega arith;
  counts_are = sym c.requires.first;
  aged = c.new-horizon.ensures.age;
  -- no finding and no line was told, and the horizon is that of no entries
  told = (
    [],
    [],
    told_none c.none-counts.result (g.W.Sink.written c.args.writer.now) c.none-counts.ensures.0 c.none-counts.ensures.1,
    λ start reads. (reads, c.new-horizon.ensures.horizon reads.es),
  );
}

-- the entry has the next number, it is not before the newest one, its moment is within the limit, and the survey has room for it
pub entry-requires : goal.entry-requires
entry-requires g c = λ goes_on.
    let l = c.loop-found in
    let moves = rw c.in-Entry.is at c.in_ok-entry.ensures.moves in
    let forgot = c.in_ok-forget_due-in-Entry.ensures in
    let number = moves.1 in
    -- after the forgetting the survey has the same number and the same newest moment
    let counts = l.invariant.counts_are in
    let kept = forgot.newest.0 in
    let newest = l.invariant.at.newest in
    let now = forgot.newest.1 in
    let order = moves.2 in
    let high = moves.3 in
    let is_room : IsTrue c.has_room.result = search rules in
    -- all of this follows by arithmetic from how the reader has moved on, and the room from the test
    record { next = omega (arith, number, counts, kept); order = omega (arith, newest, now, order); limit = high; room = c.has_room.ensures.0 is_room }

-- after one entry more, the lines are those of all findings so far, and the survey stands after what is remembered
pub loop-found-preserved : goal.loop-found-preserved
loop-found-preserved g c =
    -- l is how the loop stands; old is how far the log was read before the entry, and new after it
    let l = c.loop-found in
    let part = option_copied c.args.part in
    let p = c.args.survey.now.tables.times in
    let old : log.ReaderState = beside_source l.progress (g.R.Source.left l.reader) (g.R.Source.has_failed l.reader) in
    let new : log.ReaderState = beside_source c.read_on_taken.new.progress (g.R.Source.left c.read_on_taken.new.reader) (g.R.Source.has_failed c.read_on_taken.new.reader) in
    let moves = rw c.in-Entry.is at c.in_ok-entry.ensures.moves in
    -- what the calls of the loop did: transactions were forgotten, an entry was taken, and its lines were put
    let forgot = c.in_ok-forget_due-in-Entry.ensures in
    let taken = c.in_ok-entry-in-Entry.ensures in
    let put = c.in_ok-counts-in-Entry.ensures in
    let items : List Finding = c.entry.new.found.items in
    let lines : c.as_slice.result.now ≡ items = search rules in
    -- nothing is found before the forgetting but what was told
    let told = l.invariant.told in
    let was = l.invariant.at.newest in
    let order = moves.2 in
    let forgot_moment = forgot.newest.1 in
    let taken_moment = taken.newest.1 in
    let is_room : IsTrue c.has_room.result = search rules in
    let has_room : HasRoom c.forget_due.new.survey.number (length c.forget_due.new.survey.tables.keys) = c.has_room.ensures.0 is_room in
    -- what the loop keeps holds again
    record {
      read = c.in_ok-entry.ensures.ok ∙ l.invariant.read;
      written = put.fine ∙ l.invariant.written;
      at = record {
        on = moves.0;
        -- the survey has not failed, since it took the entry
        goes_on = search rules;
        newest = taken.newest.1 ∙ sym moves.4;
      };
      -- as many entries were counted as the survey has taken
      few = (let number = moves.1 in let survey = forgot.newest.0 in let counts = l.invariant.counts_are in let room = has_room.0 in omega arith);
      counts_are = sym taken.newest.0;
      aged = c.note.ensures.age ∙ forgot.age ∙ l.invariant.aged;
      told = (
        told.0 ++ items,
        told.1 ++ put.text.0,
        -- lines and counts are those before and those of this entry
        told_more told.0 items told.1 put.text.0 l.counts c.in_ok-counts-in-Entry.counts (g.W.Sink.written c.args.writer.now) (g.W.Sink.written l.writer) (g.W.Sink.written c.put_findings.new.writer) told.2
            (search rules) put.text.1,
        -- what was read, forgotten and taken is told on
        λ start reads.
            let so = told.3 start reads in
            let more = (rw c.in-Entry.is at c.in_ok-entry.ensures.gives) start p so.0.items so.0.read in
            remembers_on c.args.age part p start old l.survey told.0 told.1 so.0 l.horizon so.1 l.invariant.aged more.0 c.in-Entry.entry new more.1 more.2
            c.forget_due.new.survey c.entry.new.self c.forget_due.new.horizon c.note.new.self forgot.times taken.times (omega (arith, was, order, forgot_moment, taken_moment)) forgot.left has_room items
            (rw c.clear.ensures.items at taken.found) put.text.0 (subst (λ fs. AreLinesBy c.entry.new.self fs put.text.0) lines put.text.2)
            -- the horizon takes note of the entry, whose number and moment are those of the survey
            (λ es horizon_is stands. c.note.ensures.horizon es horizon_is (sym taken.newest.0 ∙ stands.number) (sym taken.newest.1 ∙ stands.moment)),
      );
    }

-- where the survey has no room for the entry, it ends there with the fault Limit
pub returns-then-not-has_room-clause-surveyed : goal.returns-then-not-has_room-clause-surveyed
returns-then-not-has_room-clause-surveyed g c =
    let l = c.loop-found in
    let part = option_copied c.args.part in
    let p = c.args.survey.now.tables.times in
    let old : log.ReaderState = beside_source l.progress (g.R.Source.left l.reader) (g.R.Source.has_failed l.reader) in
    let new : log.ReaderState = beside_source c.read_on_taken.new.progress (g.R.Source.left c.read_on_taken.new.reader) (g.R.Source.has_failed c.read_on_taken.new.reader) in
    -- what the survey told so far, and what it forgot
    let told = l.invariant.told in
    let moves = rw c.in-Entry.is at c.in_ok-entry.ensures.moves in
    let forgot = c.in_ok-forget_due-in-Entry.ensures in
    let number = c.in-Entry.entry.number in
    -- the number comes next, but there is no room for it
    let next : number ≡ c.forget_due.new.survey.number + 1 = moves.1 ∙ ap (λ n. n + 1) (l.invariant.counts_are ∙ sym forgot.newest.0) in
    let off : c.has_room.result ≡ false = search rules in
    let full : ¬ (HasRoom c.forget_due.new.survey.number (length c.forget_due.new.survey.tables.keys)) = λ room. absurd (false≢true (sym off ∙ c.has_room.ensures.1 room)) in
    let before = g.W.Sink.written c.args.writer.now in
    let mid = g.W.Sink.written l.writer in
    let after = g.W.Sink.written c.finish.new.writer in
    -- the last line tells the fault
    summed c.finish.result l.counts (LogFault number Limit) c.finish.ensures.sums c.finish.ensures.text (λ summary end findings undecided last start reads.
    let so = told.3 start reads in
    let more = (rw c.in-Entry.is at c.in_ok-entry.ensures.gives) start p so.0.items so.0.read in
    remembers_full c.args.age part p start old l.survey told.0 told.1 so.0 l.counts summary before mid after told.2 findings undecided l.horizon so.1 l.invariant.aged more.0 new more.1
    c.forget_due.new.survey c.forget_due.new.horizon forgot.left full number next end last)

-- where the log ends, the summary and the last line tell all its entries
pub returns-in-End-clause-surveyed : goal.returns-in-End-clause-surveyed
returns-in-End-clause-surveyed g c =
    let l = c.loop-found in
    let part = option_copied c.args.part in
    let p = c.args.survey.now.tables.times in
    let old : log.ReaderState = beside_source l.progress (g.R.Source.left l.reader) (g.R.Source.has_failed l.reader) in
    -- what the survey told so far
    let told = l.invariant.told in
    let before = g.W.Sink.written c.args.writer.now in
    let mid = g.W.Sink.written l.writer in
    let after = g.W.Sink.written c.finish-in-End.new.writer in
    -- the last line tells the end of the log, up to which no entry is left
    summed c.finish-in-End.result l.counts c.unwrap.result c.finish-in-End.ensures.sums c.finish-in-End.ensures.text (λ summary end findings undecided last start reads.
    let so = (told.3 start reads).0 in
    let logs = (rw c.in-End.is at c.in_ok-entry.ensures.gives) start p so.items so.read in
    -- the end that is told counts the entries that were taken and the transactions that are left
    let is = same_Some _ _ (sym c.unwrap.ensures ∙ c.end.ensures.clean so.es so.follows) in
    remembers_end c.args.age part p start old l.survey told.0 told.1 so l.counts summary before mid after told.2 findings undecided (end ∙ is) (subst (λ e. Appends mid after (end_text e l.counts.findings)) is last) logs)

-- where the next entry cannot be read, the survey ends with that fault
pub returns-in-Fault-clause-surveyed : goal.returns-in-Fault-clause-surveyed
returns-in-Fault-clause-surveyed g c =
    let l = c.loop-found in
    let part = option_copied c.args.part in
    let p = c.args.survey.now.tables.times in
    let old : log.ReaderState = beside_source l.progress (g.R.Source.left l.reader) (g.R.Source.has_failed l.reader) in
    -- what the survey told so far
    let told = l.invariant.told in
    let before = g.W.Sink.written c.args.writer.now in
    let mid = g.W.Sink.written l.writer in
    let after = g.W.Sink.written c.finish-in-Fault.new.writer in
    -- the last line tells the fault of the entry
    summed c.finish-in-Fault.result l.counts (LogFault (l.count + 1) c.in-Fault.reason) c.finish-in-Fault.ensures.sums c.finish-in-Fault.ensures.text (λ summary end findings undecided last start reads.
    let so = (told.3 start reads).0 in
    remembers_stop c.args.age part p start old l.survey told.0 told.1 so l.counts summary before mid after told.2 findings undecided l.count c.in-Fault.reason l.invariant.counts_are end last
    ((rw c.in-Fault.is at c.in_ok-entry.ensures.gives) start p so.items so.read))
