use Rattle.std.proofs.Common.{◌≡◌, ◌-◌, ◌≤◌}
use Rattle.sip_standard.specs.LogSays.{most_entries}
use Rattle.sip_log.specs.Reading.{beside_source}
use Rattle.sip_verdict.proofs.shows.ShowingLemmas.{Showed}
use Rattle.sip_verdict.proofs.showing.show.Given as goal

-- the entries that were read so far were shown, and nothing else was written
abbrev pub invariant-loop-entry : goal.invariant-loop-entry
invariant-loop-entry g l =
    record {
      -- as many entries were shown as were read, reader and writer have not failed, and what was written is their text
      count : l.count ≡ l.progress.count;
      few : l.progress.count ≤ most_entries;
      read : g.R.Source.has_failed l.reader ≡ g.R.Source.has_failed l.fn.reader;
      written : g.W.Sink.has_failed l.writer ≡ g.W.Sink.has_failed l.fn.writer;
      showed : Showed (g.R.Source.left l.fn.reader) (beside_source l.progress (g.R.Source.left l.reader) (g.R.Source.has_failed l.reader)) (g.W.Sink.written l.fn.writer) (g.W.Sink.written l.writer);
    }

-- each turn of the loop reads one entry, and a log has at most `most_entries`
abbrev pub decreases-loop-entry : goal.decreases-loop-entry
decreases-loop-entry g l = most_entries - l.progress.count
