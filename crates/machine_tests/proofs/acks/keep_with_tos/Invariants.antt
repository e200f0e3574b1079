use Rattle.std.specs.Prelude.{ℕ, ◌≤◌}
use Rattle.sip_machine.specs.Texts.{Keeps}
use Rattle.machine_tests.proofs.acks.keep_with_tos.Given as goal

-- the book keeps no message with a number above `last`
abbrev pub invariant-loop-number : goal.invariant-loop-number
invariant-loop-number l = (n : ℕ) → Keeps l.book n → n ≤ l.last
