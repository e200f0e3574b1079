-- The faults of a message: where one is, and why.
use Rattle.std.specs.Prelude.{ℕ, List, ◌∷◌}
use Rattle.sip_standard.specs.declared.fault.Fault.{Fault}
use Rattle.sip_standard.specs.declared.fault.Unit.TheVariants as place
use Rattle.sip_standard.specs.declared.fault.Reason.{Reason}

abbrev pub fault_in_head : Reason → Fault
fault_in_head why = record { unit = place.Head; reason = why }

-- a fault of the line with this number, 0 being the start line
abbrev pub fault_in_line : ℕ → Reason → Fault
fault_in_line n why = record { unit = place.Line n; reason = why }

abbrev pub fault_in_body : Reason → Fault
fault_in_body why = record { unit = place.Body; reason = why }

-- the number of the line of the second of these fields, which are told by their lines and values; 0 where there is none, and then no fault cites it
abbrev pub second_line : List (ℕ × List ℕ) → ℕ
second_line (one ∷ two ∷ more) = two.0
second_line _ = 0
