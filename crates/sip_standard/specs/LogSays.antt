-- What an input says as a log: a header of its format, entries, and how they end.
use Rattle.std.specs.Prelude.{◌≡◌, ◌≢◌, ◌⊎◌, ◌<◌, ◌≤◌, ◌++◌, ℕ, List, [], ◌∷◌, length, slice_index, flat_map}
use Rattle.sip_standard.specs.Times.{Times}
use Rattle.sip_standard.specs.declared.action.Action.{Action}
use Rattle.sip_standard.specs.declared.format.Format.{Format}
use Rattle.sip_standard.specs.LogHeader.{Header}
use Rattle.sip_standard.specs.LogEntry.{Item, HasMessage, IsWithinLimits, IsOf, InOrder, last_of, line_says, entry_says}
use Rattle.sip_standard.specs.declared.log_reason.LogReason.{LogReason}
use Rattle.sip_standard.specs.declared.log_reason.LogReason.TheVariants.{EntryLine, Truncated, Order, Limit}

-- LF in ASCII
abbrev pub line_feed : ℕ
line_feed = 10

-- the most entries of a log
abbrev pub most_entries : ℕ
most_entries = 1000000

-- the first of two cases holds, with its fault; or it does not hold, and a later one does
abbrev pub First : Type 0 → LogReason → LogReason → Type 0 → Type 0
First Case its fault Later = (Case × (fault ≡ its)) ⊎ (¬ Case × Later)

-- the front line of the rest, and what is after its LF; the LF is among the first 32 bytes: the longest line of an entry has 21 bytes before it
pub record FrontLine (rest line behind : List ℕ) : Type 0 where
  pub whole : rest ≡ line ++ line_feed ∷ behind
  pub first : (k : ℕ) → k < length line → slice_index line k ≢ line_feed
  pub short : length line < 32

-- cases 3 to 7, of the line at the front and what is after it: the line is not of the form; moment or length is outside the limits; the moment
-- is below that of the entry before; the input ends before the message and its LF are whole; the byte after the message is not LF
abbrev pub LineFault : Format → ℕ → List ℕ → List ℕ → LogReason → Type 0
LineFault format last line behind fault =
    (((action : Action) (moment len : ℕ) → IsOf format action → line ≢ line_says action moment len) × (fault ≡ EntryLine))
    ⊎ ((action : Action) × (moment : ℕ) × (len : ℕ) × IsOf format action × (line ≡ line_says action moment len)
    × First (¬ IsWithinLimits action moment len) Limit fault (First (moment < last) Order fault
    (HasMessage action × First (length behind ≤ len) Truncated fault ((slice_index behind len ≢ line_feed) × (fault ≡ EntryLine)))))

-- how the entries of a log end: with the input, or where no entry can be read
pub data LogEnd : Type 0 where
  Clean : LogEnd
  Stops : LogReason → LogEnd

-- after this many entries, the last at this moment, the rest of an input ends so: nothing is left, or the first of seven cases holds. Case 1: the entry
-- would be one more than the most; case 2: no LF is among the first 32 bytes, and the input ends before the 32nd, or it does not
abbrev pub EndsWith : Format → ℕ → ℕ → List ℕ → LogEnd → Type 0
EndsWith format count last rest Clean = rest ≡ []
EndsWith format count last rest (Stops fault) =
    (rest ≢ [])
    × First (most_entries ≤ count) Limit fault
    ((((line behind : List ℕ) → ¬ (FrontLine rest line behind)) × First (length rest < 32) Truncated fault (fault ≡ EntryLine))
    ⊎ ((line : List ℕ) × (behind : List ℕ) × FrontLine rest line behind × LineFault format last line behind fault))

-- a header and these entries stand in a row at the front of an input, they keep limits and order, and the input ends in this way after them
pub record LogSays (input : List ℕ) (p : Times) (items : List Item) (end : LogEnd) : Type 0 where
  pub format : Format
  pub rest : List ℕ
  pub header : Header format p input (flat_map entry_says items ++ rest)
  pub few : length items ≤ most_entries
  pub order : InOrder format 0 items
  pub next : EndsWith format (length items) (last_of 0 items) rest end

-- no header stands at the front of an input
abbrev pub LacksHeader : List ℕ → Type 0
LacksHeader input = (format : Format) (p : Times) (behind : List ℕ) → ¬ (Header format p input behind)
