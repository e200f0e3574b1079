use Rattle.std.proofs.Common.{◌≡◌, List, ℕ, take}
use Rattle.std.specs.Io.KnownBytes.{Appends}
use Rattle.sip_verdict.specs.inner.SurveyingLogs.{AreCounted, AreLinesBy}
use Rattle.sip_verdict.proofs.surveying.put_findings.Given as goal

-- the lines of the findings so far were written, and these were counted
abbrev pub invariant-loop-finding : goal.invariant-loop-finding
invariant-loop-finding g l =
    record {
      -- these lines were written, the findings are counted beside those of before, and no write has failed
      text : (text : List ℕ) × Appends (g.W.Sink.written l.fn.writer) (g.W.Sink.written l.writer) text × AreLinesBy l.survey (take l.finding-index l.found) text;
      counted : AreCounted (take l.finding-index l.found) l.fn.counts l.counts;
      fine : g.W.Sink.has_failed l.writer ≡ g.W.Sink.has_failed l.fn.writer;
    }
