use Rattle.std.proofs.Common.{◌≡◌, ◌-◌, ◌≤◌, map}
use Rattle.sip_standard.specs.LogSays.{most_entries}
use Rattle.sip_log.specs.Told.{item}
use Rattle.sip_log.specs.Reading.{beside_source}
use Rattle.sip_log.proofs.answers.CallerLemmas.{Stands, GoesOn}
use Rattle.sip_log.proofs.whole.read_entries.Given as goal

-- the list has the entries that were read so far, and the reader can go on after them
abbrev pub invariant-loop-entry : goal.invariant-loop-entry
invariant-loop-entry g l = record {
  on : GoesOn (beside_source l.progress (g.R.Source.left l.source) (g.R.Source.has_failed l.source));
  stands : Stands (g.R.Source.left l.fn.source) (map item l.entries.items) (beside_source l.progress (g.R.Source.left l.source) (g.R.Source.has_failed l.source));
  fine : g.R.Source.has_failed l.source ≡ g.R.Source.has_failed l.fn.source;
  few : l.progress.count ≤ most_entries;
}

-- each turn of the loop reads one entry, and a log has at most `most_entries`
abbrev pub decreases-loop-entry : goal.decreases-loop-entry
decreases-loop-entry g l = most_entries - l.progress.count
