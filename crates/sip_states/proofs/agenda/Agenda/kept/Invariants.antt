use Rattle.std.proofs.Common.{◌≡◌, ◌++◌, drop}
use Rattle.sip_states.specs.Kept.{kept_of}
use Rattle.sip_states.proofs.agenda.Agenda.kept.Given as goal

-- the new agenda, and what is kept of the records from `at` on, are together what is kept of all
abbrev pub invariant-loop-at : goal.invariant-loop-at
invariant-loop-at l = l.agenda ++ kept_of (drop l.at l.flags) (drop l.at l.self) ≡ kept_of l.flags l.self
