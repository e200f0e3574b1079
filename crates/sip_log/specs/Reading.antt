-- How a log is read, call by call.
use Rattle.std.specs.Prelude.{◌≡◌, ◌+◌, ◌<◌, ◌≤◌, ℕ, Bool, List, length, Option, Some, None, Result, Ok, Err, IfSome, IsSome, OnOk}
use Rattle.std.specs.Io.KnownBytes.{prepend_known}
use Rattle.sip_standard.specs.Times.{Times, last_moment}
use Rattle.sip_log.specs.declared.entry.Entry.{Entry}
use Rattle.sip_log.specs.declared.log_error.LogError.{LogError}
use Rattle.sip_log.specs.declared.log_error.LogError.TheVariants as errors
use Rattle.sip_standard.specs.declared.format.Format.{Format}
use Rattle.sip_standard.specs.declared.format.Format.TheVariants.{One}
use Rattle.sip_standard.specs.declared.log_reason.LogReason.TheVariants as faults
use Rattle.sip_log.specs.Next.{Next, ends, gives, stops, ComesNext}
use Rattle.sip_standard.specs.LogHeader.{Header}
use Rattle.sip_standard.specs.LogEntry.{Item}
use Rattle.sip_standard.specs.LogSays.{most_entries, LacksHeader}
use Rattle.sip_log.specs.Told.{TellsWhatComes, next_of}

-- the stage of a reader: it has read nothing yet, it reads entries, it has told the end, or it has told an error
pub data Stage : Type 0 where
  fresh : Stage
  entries : Stage
  ended : Stage
  failed : Stage

-- how far a log was read: the stage, the bytes held, the format and the times of the header, how many entries were counted, and the moment of the last
pub record ProgressState : Type 0 where
  pub stage : Stage
  pub held : List ℕ
  pub format : Format
  pub times : Option Times
  pub count : ℕ
  pub last : ℕ

-- how far a log was read, beside its source: what is left to read, where it is known, and whether a read has failed
pub record ReaderState : Type 0 where
  pub stage : Stage
  pub left : Option (List ℕ)
  pub format : Format
  pub times : Option Times
  pub count : ℕ
  pub last : ℕ
  pub has_failed : Bool

-- how far a log was read by this place, with what its source has left
abbrev pub beside_source : ProgressState → Option (List ℕ) → Bool → ReaderState
beside_source p left has_failed =
    record { stage = p.stage; left = prepend_known p.held left; format = p.format; times = p.times; count = p.count; last = p.last; has_failed = has_failed }

-- the entry has this number, is not before the moment `last`, and is within the limits of the code
pub record Continues (number last : ℕ) (e : Entry) : Type 0 where
  pub number_is : e.number ≡ number
  pub order : last ≤ e.moment
  pub moment_high : e.moment ≤ last_moment
  pub length_high : length e.bytes.items ≤ 65535

-- what an answer says that needs no bytes, after `count` entries with the last moment `last`: the number of the entry, the order, and the stage
abbrev pub Moves : ℕ → ℕ → ReaderState → Result (Option Entry) LogError → Type 0
Moves count last new (Ok (Some e)) = (new.stage ≡ entries) × Continues (count + 1) last e × (new.count ≡ e.number) × (new.last ≡ e.moment) × (count < most_entries)
Moves count last new (Ok None) = (new.stage ≡ ended) × (new.count ≡ count) × (new.last ≡ last)
Moves count last new (Err e) = (new.stage ≡ failed) × (new.count ≡ count) × (new.last ≡ last)

-- what comes first in an input: the fault of its header where no times were read, and else its header and what comes next after it
abbrev pub ComesFirst : Format → Option Times → List ℕ → Next Item → Type 0
ComesFirst format None xs next = LacksHeader xs × (next ≡ stops faults.Header)
ComesFirst format (Some p) xs next = (behind : List ℕ) × Header format p xs behind × ComesNext format 0 0 behind next

-- what comes in the rest of an input at this stage, by the reader before and after the call
abbrev pub Comes : Stage → ReaderState → ReaderState → List ℕ → Next Item → Type 0
Comes fresh old new xs next = ComesFirst new.format new.times xs next
Comes entries old new xs next = ComesNext old.format old.count old.last xs next
Comes ended old new xs next = ⊥
Comes failed old new xs next = ⊥

-- a call that reads: what it says without the bytes, and what comes in the rest of the input and is left after it
pub record ReadsNext (old new : ReaderState) (r : Result (Option Entry) LogError) : Type 0 where
  pub moves : Moves old.count old.last new r
  pub times : OnOk r (IsSome new.times)
  pub kept : IfSome old.times (λ p. (new.times ≡ Some p) × (new.format ≡ old.format))
  pub says : TellsWhatComes old.left new.left old.has_failed new.has_failed (Comes old.stage old new) next_of r

-- the answer of a call at this stage; after the end and after an error it reads nothing, and tells that again
abbrev pub NextsAt : Stage → ReaderState → ReaderState → Result (Option Entry) LogError → Type 0
NextsAt fresh old new r = ReadsNext old new r
NextsAt entries old new r = ReadsNext old new r
NextsAt ended old new r = (r ≡ Ok None) × (new ≡ old)
NextsAt failed old new r = (r ≡ Err errors.Failed) × (new ≡ old)

-- what stands first in an input: a header and what is after it, or the fault that there is none
abbrev pub Heads : Format → List ℕ → Next Times → Type 0
Heads format xs ends = ⊥
Heads format xs (gives p behind) = Header format p xs behind
Heads format xs (stops fault) = LacksHeader xs × (fault ≡ faults.Header)

-- a header that is read by itself: its times, with no entry read and what is left after it, or why there is none
abbrev pub Opens : Option (List ℕ) → Option (List ℕ) → Bool → Bool → Result (Times × ProgressState) LogError → Type 0
Opens old left before after (Ok (p, place)) =
    (place ≡ record { stage = entries; held = place.held; format = place.format; times = Some p; count = 0; last = 0 })
    × TellsWhatComes {A = Times} old (prepend_known place.held left) before after (Heads place.format) gives (Ok p)
Opens old left before after (Err e) = TellsWhatComes {A = Times} old left before after (Heads One) gives (Err e)

-- the answer of a call: it reads, unless the end or an error was told, which it then tells again
abbrev pub Nexts : ReaderState → ReaderState → Result (Option Entry) LogError → Type 0
Nexts old new r = NextsAt old.stage old new r
