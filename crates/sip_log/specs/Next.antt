-- What comes next in an input.
use Rattle.std.specs.Prelude.{◌≡◌, ◌<◌, ◌≤◌, ◌++◌, ℕ, List}
use Rattle.sip_standard.specs.declared.format.Format.{Format}
use Rattle.sip_standard.specs.LogEntry.{Item, IsEntry, entry_says}
use Rattle.sip_standard.specs.declared.log_reason.LogReason.{LogReason}
use Rattle.sip_standard.specs.LogSays.{most_entries, Clean, Stops, EndsWith}

-- what comes next in an input: its end, a value and the bytes after it, or the fault for which it cannot be read on
pub data Next (A : Type 0) : Type 0 where
  ends : Next A
  gives : A → List ℕ → Next A
  stops : LogReason → Next A

-- what comes next in the rest of an input after `count` entries, of which the last is at the moment `last`
abbrev pub ComesNext : Format → ℕ → ℕ → List ℕ → Next Item → Type 0
ComesNext format count last rest ends = EndsWith format count last rest Clean
ComesNext format count last rest (gives e behind) = (rest ≡ entry_says e ++ behind) × (count < most_entries) × (last ≤ e.moment) × IsEntry format e
ComesNext format count last rest (stops fault) = EndsWith format count last rest (Stops fault)
