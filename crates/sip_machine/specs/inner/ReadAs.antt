-- What bytes are read as, and nothing where they have a fault.
use Rattle.std.specs.Prelude.{ℕ, Option, None, Some, List}
use Rattle.sip_standard.specs.declared.fault.Fault.{Fault}
use Rattle.sip_message.specs.Reading.{Reading}
use Rattle.sip_message.specs.Reads.{Reads}
use Rattle.sip_standard.specs.Outcome.{stops}
use Rattle.sip_standard.specs.Says.{Says}

-- what bytes are read as is this message, and nothing where they have a fault
abbrev pub IsReadAs : List ℕ → Option Reading → Type 0
IsReadAs bytes (Some r) = Reads bytes r
IsReadAs bytes None = (f : Fault) × Says bytes (stops f)
