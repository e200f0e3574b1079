-- The entry that stands whole among the bytes that are held.
use Rattle.std.specs.Prelude.{◌≡◌, ◌≢◌, ◌≤◌, ◌++◌, ℕ, List, [], length, drop, ⊤}
use Rattle.sip_standard.specs.declared.format.Format.{Format}
use Rattle.sip_standard.specs.LogEntry.{Item}
use Rattle.sip_log.specs.declared.ahead.Ahead.{Ahead}
use Rattle.sip_log.specs.Ahead.{item_ahead}
use Rattle.sip_log.specs.Next.{Next, ends, gives, stops}
use Rattle.sip_log.specs.inner.Entry.{EntryComes}

-- this entry has a message, takes the first of these bytes, and comes next after `count` entries with the last moment `last`, whatever bytes come
-- after these
pub record ComesAhead (format : Format) (count last : ℕ) (held : List ℕ) (a : Ahead) : Type 0 where
  pub some : a.message.now ≢ []
  pub within : a.size ≤ length held
  pub comes : (more : List ℕ) → EntryComes format count last (held ++ more) (gives (item_ahead a.action a.moment a.message.now) (drop a.size held ++ more))

-- what comes next is no entry with a message
abbrev pub LacksMessage : Next Item → Type 0
LacksMessage ends = ⊤
LacksMessage (gives e after) = e.text ≡ []
LacksMessage (stops fault) = ⊤

-- something comes that is no entry with a message
abbrev pub ComesWithout : (Next Item → Type 0) → Type 0
ComesWithout Comes = (next : Next Item) × Comes next × LacksMessage next
