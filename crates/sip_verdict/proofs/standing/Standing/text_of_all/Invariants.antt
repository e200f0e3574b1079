use Rattle.std.proofs.Common.{◌-◌, string_bytes}
use Rattle.sip_verdict.specs.inner.Concerned.{up_to}
use Rattle.sip_verdict.specs.inner.Numbering.{AppendsEach}
use Rattle.sip_verdict.proofs.standing.Standing.text_of_all.Given as goal

-- the texts of the transactions below `number` were appended
abbrev pub invariant-loop-number : goal.invariant-loop-number
invariant-loop-number g l = AppendsEach l.fn.self.tables (up_to (l.number - 1)) (string_bytes l.initial.text) (string_bytes l.text)
