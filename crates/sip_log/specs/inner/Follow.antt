-- All entries that are left of a log, and how the log ends after them.
use Rattle.std.specs.Prelude.{◌+◌, ℕ, List, [], ◌∷◌}
use Rattle.sip_log.specs.Next.{Next, ends, gives, stops}
use Rattle.sip_standard.specs.LogEntry.{Item}
use Rattle.sip_standard.specs.LogSays.{LogEnd, Clean, Stops}
use Rattle.sip_standard.specs.declared.format.Format.{Format}
use Rattle.sip_log.specs.inner.Entry.{EntryComes}

-- what comes next where the log ends in this way
abbrev pub next_at : LogEnd → Next Item
next_at Clean = ends
next_at (Stops fault) = stops fault

-- after `count` entries with the last moment `last`, the rest of an input has these entries in a row, and ends in this way after them
abbrev pub Follow : Format → ℕ → ℕ → List ℕ → List Item → LogEnd → Type 0
Follow format count last rest [] end = EntryComes format count last rest (next_at end)
Follow format count last rest (e ∷ es) end =
    (behind : List ℕ) × EntryComes format count last rest (gives e behind) × Follow format (count + 1) e.moment behind es end
