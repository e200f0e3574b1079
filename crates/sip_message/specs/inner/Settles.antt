-- What the result of a stage of reading comes to.
use Rattle.std.specs.Prelude.{Result, Ok, Err, ⊤}
use Rattle.sip_standard.specs.declared.fault.Fault.{Fault}
use Rattle.sip_message.specs.declared.fault.ReadError.{ReadError}
use Rattle.sip_message.specs.declared.fault.ReadError.TheVariants as error
use Rattle.sip_standard.specs.Outcome.{Outcome, gives, stops}

-- the outcome of a result: what it gives, seen as its parts, or the fault with which it stops
abbrev pub outcome_of : {A X : Type 0} → (A → X) → Result A Fault → Outcome X
outcome_of parts (Ok a) = gives (parts a)
outcome_of parts (Err fault) = stops fault

-- the outcome of the result is one of S; of a result that memory is missing nothing is said
abbrev pub Settles : {A X : Type 0} → (Outcome X → Type 0) → (A → X) → Result A ReadError → Type 0
Settles S parts (Ok a) = S (gives (parts a))
Settles S parts (Err error.Memory) = ⊤
Settles S parts (Err (error.Fault fault)) = S (stops fault)
