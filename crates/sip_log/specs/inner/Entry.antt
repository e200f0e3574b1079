-- What comes next after the entries that were read: an entry, the end, or the first of seven cases in which it cannot be read.
use Rattle.std.specs.Prelude.{◌≡◌, ◌≢◌, ◌⊎◌, ◌<◌, ◌≤◌, ◌++◌, ℕ, List, [], ◌∷◌, length}
use Rattle.sip_standard.specs.declared.action.Action.{Action}
use Rattle.sip_standard.specs.declared.format.Format.{Format}
use Rattle.sip_standard.specs.declared.log_reason.LogReason.TheVariants as faults
use Rattle.sip_log.specs.Next.{Next, ends, gives, stops}
use Rattle.sip_standard.specs.LogSays.{line_feed, FrontLine, most_entries}
use Rattle.sip_standard.specs.LogEntry.{Item}
use Rattle.sip_log.specs.inner.Line.{longest_line, Head, message, plain, HeadLine, KeepsLimits, moment_of}
use Rattle.sip_log.specs.inner.Unless.{Unless}

-- what comes by the byte after a message: case 7, `EntryLine`, where it is not LF, and else the entry
abbrev pub CloseComes : Action → ℕ → List ℕ → ℕ → List ℕ → Next Item → Type 0
CloseComes action moment text b after next =
    Unless (b ≡ line_feed) faults.EntryLine next (next ≡ gives (record { action = action; moment = moment; text = text }) after)

-- what comes by a message: case 6, `Truncated`, where the input ends before it and its LF are whole, and else what comes by that byte
abbrev pub MessageComes : Action → ℕ → ℕ → List ℕ → Next Item → Type 0
MessageComes action moment len behind next =
    Unless (len < length behind) faults.Truncated next
    ((text : List ℕ) × (b : ℕ) × (after : List ℕ) × (behind ≡ text ++ b ∷ after) × (length text ≡ len) × CloseComes action moment text b after next)

-- what comes after an entry's line: a message, or the entry itself where it has none
abbrev pub BodyComes : Head → List ℕ → Next Item → Type 0
BodyComes (message action moment len) behind next = MessageComes action moment len behind next
BodyComes (plain action moment) behind next = next ≡ gives (record { action = action; moment = moment; text = [] }) behind

-- what comes by the moment: case 5, `Order`, where it is below that of the entry before, and else what comes after the line
abbrev pub MomentComes : ℕ → Head → List ℕ → Next Item → Type 0
MomentComes last head behind next = Unless (last ≤ moment_of head) faults.Order next (BodyComes head behind next)

-- what comes by the numbers: case 4, `Limit`, where the moment or the length is outside the limits, and else what comes by the moment
abbrev pub HeadComes : ℕ → Head → List ℕ → Next Item → Type 0
HeadComes last head behind next = Unless (KeepsLimits head) faults.Limit next (MomentComes last head behind next)

-- what comes by the form of the line: case 3, `EntryLine`, where it has none of an entry's line, and else what comes by its numbers
abbrev pub FormComes : Format → ℕ → List ℕ → List ℕ → Next Item → Type 0
FormComes format last line behind next =
    (((head : Head) → ¬ (HeadLine format line head)) × (next ≡ stops faults.EntryLine))
    ⊎ ((head : Head) × HeadLine format line head × HeadComes last head behind next)

-- what comes by the front line: where none is among the first 32 bytes, case 2, `Truncated` with fewer bytes left and else `EntryLine`
abbrev pub LineComes : Format → ℕ → List ℕ → Next Item → Type 0
LineComes format last rest next =
    (((line : List ℕ) (behind : List ℕ) → ¬ (FrontLine rest line behind))
    × Unless (longest_line ≤ length rest) faults.Truncated next (next ≡ stops faults.EntryLine))
    ⊎ ((line : List ℕ) × (behind : List ℕ) × FrontLine rest line behind × FormComes format last line behind next)

-- what comes next after `count` entries with the last moment `last`: the end, case 1, `Limit`, where an entry is one too many, or what comes by its line
abbrev pub EntryComes : Format → ℕ → ℕ → List ℕ → Next Item → Type 0
EntryComes format count last rest next =
    ((rest ≡ []) × (next ≡ ends)) ⊎ ((rest ≢ []) × Unless (count < most_entries) faults.Limit next (LineComes format last rest next))
