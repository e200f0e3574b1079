-- A tolerance that replaces another.
use Rattle.std.specs.Prelude.{◌≡◌, ℕ, List, Contains}
use Rattle.sip_standard.specs.MachineEvent.{MachineEvent}
use Rattle.sip_standard.specs.Times.{Times}

-- the same times with this tolerance, early and late
abbrev pub tolerant : ℕ → ℕ → Times → Times
tolerant early late p = record p { early = early; late = late }

-- events with equal bytes are of one kind: the same bytes are the same message
abbrev pub AreOneKind : List MachineEvent → Type 0
AreOneKind events = (a b : MachineEvent) → Contains events a → Contains events b → a.text ≡ b.text → a.kind ≡ b.kind
