use Rattle.std.proofs.Common.{◌≡◌, ◌<◌, ◌≤◌, ◌+◌, ◌-◌, ℕ}
use Rattle.sip_standard.specs.LogSays.{most_entries}
use Rattle.sip_log.specs.Reading.{beside_source, entries}
use Rattle.sip_verdict.specs.declared.walking.Aim.TheVariants as aim
use Rattle.sip_verdict.specs.inner.TablesTracking.{MayTake}
use Rattle.sip_verdict.specs.inner.Walking.{Walks}
use Rattle.sip_verdict.proofs.walking.walk.Given as goal

-- the walk has judged `count` entries without a verdict, its aim comes later, and the next entry may be taken
abbrev pub invariant-loop-standing : goal.invariant-loop-standing
invariant-loop-standing g l =
    record {
      -- no read has failed since, and as many entries were judged as were read
      fine : g.R.Source.has_failed l.reader ≡ g.R.Source.has_failed l.fn.reader;
      on : l.progress.stage ≡ entries;
      counts : l.count ≡ l.progress.count;
      few : l.count ≤ most_entries;
      -- the judge stands after the entries that were read
      left : l.left ≤ most_entries + 1;
      before : (n : ℕ) → l.fn.aim ≡ aim.Entry n → l.count < n;
      may : MayTake l.standing.book l.standing.tables (l.count + 1) l.progress.last;
      walks : Walks l.fn.aim (g.R.Source.left l.fn.reader) (beside_source l.progress (g.R.Source.left l.reader) (g.R.Source.has_failed l.reader)) l.count l.left l.standing.book l.standing.tables;
    }

-- each turn of the loop reads one entry, and a log has at most `most_entries`
abbrev pub decreases-loop-standing : goal.decreases-loop-standing
decreases-loop-standing g l = most_entries - l.progress.count
