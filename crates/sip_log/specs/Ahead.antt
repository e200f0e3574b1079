-- The entry that stands whole among the bytes that are held.
use Rattle.std.specs.Prelude.{◌≡◌, ◌≢◌, ◌≤◌, ◌+◌, ◌++◌, ℕ, List, [], length, drop}
use Rattle.sip_standard.specs.declared.action.Action.{Action}
use Rattle.sip_standard.specs.LogEntry.{Item}
use Rattle.sip_log.specs.declared.ahead.Ahead.{Ahead}
use Rattle.sip_log.specs.Next.{gives, ComesNext}
use Rattle.sip_log.specs.Reading.{entries, ProgressState}

-- the entry with this action, moment and message
abbrev pub item_ahead : Action → ℕ → List ℕ → Item
item_ahead action moment text = record { action = action; moment = moment; text = text }

-- this entry has a message and comes next: it takes the first bytes of those that are held, whatever the source has left
pub record IsAhead (p : ProgressState) (a : Ahead) : Type 0 where
  pub on : p.stage ≡ entries
  pub number_is : a.number ≡ p.count + 1
  pub some : a.message.now ≢ []
  pub within : a.size ≤ length p.held
  pub comes : (more : List ℕ) → ComesNext p.format p.count p.last (p.held ++ more) (gives (item_ahead a.action a.moment a.message.now) (drop a.size p.held ++ more))

-- no entry with a message comes next in the bytes that are held, taken by themselves
abbrev pub LacksAhead : ProgressState → Type 0
LacksAhead p = p.stage ≡ entries → (e : Item) (after : List ℕ) → e.text ≢ [] → ¬ (ComesNext p.format p.count p.last p.held (gives e after))

-- how far a log was read after an entry at this moment, which took so many bytes of those that were held
abbrev pub passed : ProgressState → ℕ → ℕ → ProgressState
passed p moment size = record { stage = entries; held = drop size p.held; format = p.format; times = p.times; count = p.count + 1; last = moment }
