use Rattle.std.proofs.Common.{◌≡◌, ◌-◌, [], None, Option, List, ℕ}
use Rattle.sip_standard.specs.LogSays.{most_entries}
use Rattle.sip_log.specs.Reading.{beside_source}
use Rattle.sip_verdict.specs.inner.SurveyingLogs.{IsSurveyAt, SurveysRead}
use Rattle.sip_verdict.proofs.gathering.gather_entries.Given as goal

-- the survey stands after the entries that were read, and what was found is what it finds at them
abbrev pub invariant-loop-found : goal.invariant-loop-found
invariant-loop-found g l =
    -- the reader has not failed since; survey and log stand at the same entry; what was told so far is what the survey finds
    record {
      fine : g.R.Source.has_failed l.reader ≡ g.R.Source.has_failed l.fn.reader;
      at : IsSurveyAt l.survey l.progress;
      counts_are : l.count ≡ l.survey.number;
      told : (start : Option (List ℕ)) → SurveysRead None l.fn.survey [] start (beside_source l.fn.progress (g.R.Source.left l.fn.reader) (g.R.Source.has_failed l.fn.reader))
          → SurveysRead None l.survey l.found.items start (beside_source l.progress (g.R.Source.left l.reader) (g.R.Source.has_failed l.reader));
    }

-- each turn of the loop reads one entry, and a log has at most `most_entries`
abbrev pub decreases-loop-found : goal.decreases-loop-found
decreases-loop-found g l = most_entries - l.progress.count
