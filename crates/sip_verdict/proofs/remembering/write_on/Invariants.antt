use Rattle.std.proofs.Common.{◌≡◌, ◌≤◌, ◌-◌, [], Option, List, ℕ}
use Rattle.std.specs.Option.{option_copied}
use Rattle.sip_log.specs.Reading.{beside_source}
use Rattle.sip_verdict.specs.declared.finding.Finding.{Finding}
use Rattle.sip_verdict.specs.inner.ForgettingLogs.{IsHorizonOf, IsStreamAt, RemembersRead}
use Rattle.sip_verdict.specs.inner.SurveyingLogs.{HasWritten}
use Rattle.sip_verdict.specs.Room.{most_surveyed}
use Rattle.sip_verdict.proofs.remembering.write_on.Given as goal

-- the survey stands after what is remembered of the entries, the lines written are those of its findings, and its horizon is theirs
abbrev pub invariant-loop-found : goal.invariant-loop-found
invariant-loop-found g l =
    let part = option_copied l.fn.part in
    let p = l.fn.survey.tables.times in
    record {
      -- neither reader nor writer has failed since, and survey and log stand at the same place
      read : g.R.Source.has_failed l.reader ≡ g.R.Source.has_failed l.fn.reader;
      written : g.W.Sink.has_failed l.writer ≡ g.W.Sink.has_failed l.fn.writer;
      at : IsStreamAt l.survey l.progress;
      -- the count, the age and what was told
      few : l.count ≤ most_surveyed;
      counts_are : l.count ≡ l.survey.number;
      aged : l.horizon.age ≡ l.fn.age;
      told : (found : List Finding) × (lines : List ℕ) × HasWritten found lines l.counts (g.W.Sink.written l.fn.writer) (g.W.Sink.written l.writer)
          × ((start : Option (List ℕ)) → RemembersRead l.fn.age part p l.fn.survey [] [] start (beside_source l.fn.progress (g.R.Source.left l.fn.reader) (g.R.Source.has_failed l.fn.reader))
          → (so : RemembersRead l.fn.age part p l.survey found lines start (beside_source l.progress (g.R.Source.left l.reader) (g.R.Source.has_failed l.reader))) × IsHorizonOf l.horizon so.es);
    }

-- each turn of the loop reads one entry, and a survey takes at most `most_surveyed`
abbrev pub decreases-loop-found : goal.decreases-loop-found
decreases-loop-found g l = most_surveyed - l.count
