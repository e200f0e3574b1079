use Rattle.std.proofs.Common.{◌+◌, ◌<◌, ℕ}
use Rattle.sip_machine.specs.Texts.{Keeps}
use Rattle.machine_tests.proofs.tests.are_numbered.Given as goal

-- each number of the book is one of the first `place` that were given, or an earlier one
abbrev pub invariant-loop-place : goal.invariant-loop-place
invariant-loop-place l = (n : ℕ) → Keeps l.book n → n < l.first + l.place
