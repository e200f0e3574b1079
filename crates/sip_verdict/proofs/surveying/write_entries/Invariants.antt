use Rattle.std.proofs.Common.{◌≡◌, ◌-◌, [], Option, List, ℕ}
use Rattle.sip_standard.specs.LogSays.{most_entries}
use Rattle.std.specs.Option.{option_copied}
use Rattle.sip_log.specs.Reading.{beside_source}
use Rattle.sip_verdict.specs.declared.finding.Finding.{Finding}
use Rattle.sip_verdict.specs.inner.SurveyingLogs.{HasWritten, IsSurveyAt, SurveysRead}
use Rattle.sip_verdict.proofs.surveys.written.Writing.{ToldSoFar}
use Rattle.sip_verdict.proofs.surveying.write_entries.Given as goal

-- the survey stands after the entries that were read, and the lines written are those of its findings
abbrev pub invariant-loop-found : goal.invariant-loop-found
invariant-loop-found g l =
    record {
      -- neither reader nor writer has failed since, and survey and log stand at the same place
      read : g.R.Source.has_failed l.reader ≡ g.R.Source.has_failed l.fn.reader;
      written : g.W.Sink.has_failed l.writer ≡ g.W.Sink.has_failed l.fn.writer;
      at : IsSurveyAt l.survey l.progress;
      counts_are : l.count ≡ l.survey.number;
      -- the findings and lines so far are those of the entries that were read
      told : (found : List Finding) × (lines : List ℕ) × HasWritten found lines l.counts (g.W.Sink.written l.fn.writer) (g.W.Sink.written l.writer)
          × ((start : Option (List ℕ)) → SurveysRead (option_copied l.fn.part) l.fn.survey [] start (beside_source l.fn.progress (g.R.Source.left l.fn.reader) (g.R.Source.has_failed l.fn.reader))
          → ToldSoFar (option_copied l.fn.part) l.survey found lines start (beside_source l.progress (g.R.Source.left l.reader) (g.R.Source.has_failed l.reader)));
    }

-- each turn of the loop reads one entry, and a log has at most `most_entries`
abbrev pub decreases-loop-found : goal.decreases-loop-found
decreases-loop-found g l = most_entries - l.progress.count
