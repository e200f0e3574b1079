-- What an answer tells of the input.
use Rattle.std.specs.Prelude.{◌≡◌, ◌⊎◌, ℕ, Bool, true, List, Option, Some, None, Result, Ok, Err, IfSome, ⊤}
use Rattle.sip_log.specs.declared.entry.Entry.{Entry}
use Rattle.sip_log.specs.declared.log_error.LogError.{LogError}
use Rattle.sip_log.specs.declared.log_error.LogError.TheVariants as errors
use Rattle.sip_standard.specs.declared.log_reason.LogReason.TheVariants as faults
use Rattle.sip_standard.specs.declared.log_reason.LogReason.{LogReason}
use Rattle.sip_log.specs.Next.{Next, ends, gives, stops}
use Rattle.sip_standard.specs.Times.{Times}
use Rattle.sip_standard.specs.LogEntry.{Item}
use Rattle.sip_standard.specs.LogSays.{Stops, LogSays, LacksHeader}

-- what an error says: P holds of a fault of the log, and no read failed; `Io`: a read has failed; `Memory` says nothing, and `Failed` is not answered
abbrev pub FailsAs : Bool → Bool → (LogReason → Type 0) → LogError → Type 0
FailsAs before after P errors.Header = (after ≡ before) × P faults.Header
FailsAs before after P errors.EntryLine = (after ≡ before) × P faults.EntryLine
FailsAs before after P errors.Truncated = (after ≡ before) × P faults.Truncated
FailsAs before after P errors.Order = (after ≡ before) × P faults.Order
FailsAs before after P errors.Limit = (after ≡ before) × P faults.Limit
FailsAs before after P errors.Io = after ≡ true
FailsAs before after P errors.Memory = ⊤
FailsAs before after P errors.Failed = ⊥

-- where the bytes are known: a value and what is left after it come in the input by P, and an error is told as `FailsAs` has it
abbrev pub TellsWhatComes : {A B : Type 0} → Option (List ℕ) → Option (List ℕ) → Bool → Bool → (List ℕ → Next B → Type 0) → (A → List ℕ → Next B) → Result A LogError → Type 0
TellsWhatComes old new before after P seen (Ok a) = (after ≡ before) × IfSome old (λ xs. (ys : List ℕ) × (new ≡ Some ys) × P xs (seen a ys))
TellsWhatComes old new before after P seen (Err e) = FailsAs before after (λ fault. IfSome old (λ xs. P xs (stops fault))) e

-- the fault for which an input cannot be read to its end as a log: it lacks a header, or its entries stop with this fault
abbrev pub IsFaultOf : List ℕ → LogReason → Type 0
IsFaultOf input fault = (LacksHeader input × (fault ≡ faults.Header)) ⊎ ((p : Times) × (items : List Item) × LogSays input p items (Stops fault))

-- the entry of a log for which an entry of the code stands
abbrev pub item : Entry → Item
item e = record { action = e.action; moment = e.moment; text = e.bytes.items }

-- what comes next where the code gives an entry: that entry, and what is after it
abbrev pub entry_next : Entry → List ℕ → Next Item
entry_next e behind = gives (item e) behind

-- what comes next where the code gives an answer: the end, or an entry and what is after it
abbrev pub next_of : Option Entry → List ℕ → Next Item
next_of None behind = ends
next_of (Some e) behind = entry_next e behind
