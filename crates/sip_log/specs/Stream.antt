-- A log of any number of entries.
use Rattle.std.specs.Prelude.{◌++◌, ℕ, List, flat_map}
use Rattle.sip_standard.specs.Times.{Times}
use Rattle.sip_standard.specs.declared.format.Format.{Format}
use Rattle.sip_standard.specs.LogHeader.{Header}
use Rattle.sip_standard.specs.LogEntry.{Item, InOrder, last_of, entry_says}
use Rattle.sip_standard.specs.LogSays.{LogEnd, EndsWith}

-- a header and these entries stand in a row at the front of an input, they keep limits and order, and then it ends so, as if no entry had been counted
pub record StreamSays (input : List ℕ) (p : Times) (items : List Item) (end : LogEnd) : Type 0 where
  pub format : Format
  pub rest : List ℕ
  pub header : Header format p input (flat_map entry_says items ++ rest)
  pub order : InOrder format 0 items
  pub next : EndsWith format 0 (last_of 0 items) rest end
