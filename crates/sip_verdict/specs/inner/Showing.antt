-- How a log is shown, entry by entry.
use Rattle.std.specs.Prelude.{◌≡◌, ℕ, Bool, true, List, Option, Some, None, Result, Ok, Err, ⊤}
use Rattle.std.specs.Io.KnownBytes.{Appends}
use Rattle.sip_standard.specs.declared.action.Action.{Action}
use Rattle.sip_standard.specs.LogEntry.{Item, has_message}
use Rattle.sip_standard.specs.declared.fault.Fault.{Fault}
use Rattle.sip_message.specs.declared.fault.ReadError.{ReadError}
use Rattle.sip_message.specs.declared.fault.ReadError.TheVariants as message
use Rattle.sip_standard.specs.Outcome.{stops}
use Rattle.sip_standard.specs.Says.{Says}
use Rattle.sip_standard.specs.declared.show_error.ShowError.{ShowError}
use Rattle.sip_standard.specs.declared.show_error.ShowError.TheVariants.{Read, Write, Memory}
use Rattle.sip_standard.specs.Showing.{IsCanonOf, shown_entry}

-- a message has no canonical form because it has this fault; want of memory is not spoken of
abbrev pub IsFaulty : List ℕ → ReadError → Type 0
IsFaulty bytes (message.Fault fault) = Says bytes (stops fault)
IsFaulty bytes message.Memory = ⊤

-- an entry has no canonical form because its message has none; an entry without a message always has one
abbrev pub HasNoForm : Action → List ℕ → ReadError → Type 0
HasNoForm action bytes error = (has_message action ≡ true) × IsFaulty bytes error

-- the entry was written as it is shown; or its message has a fault, and nothing was written
abbrev pub ShowsEntry : ℕ → Item → Option (List ℕ) → Option (List ℕ) → Bool → Bool → Result (Option Fault) ShowError → Type 0
ShowsEntry number e old new before after (Ok None) = (form : List ℕ) × IsCanonOf e.action e.text form × Appends old new (shown_entry number e form) × (after ≡ before)
ShowsEntry number e old new before after (Ok (Some fault)) = (has_message e.action ≡ true) × Says e.text (stops fault) × (new ≡ old) × (after ≡ before)
ShowsEntry number e old new before after (Err Read) = ⊥
ShowsEntry number e old new before after (Err Write) = after ≡ true
ShowsEntry number e old new before after (Err Memory) = ⊤
