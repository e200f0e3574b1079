use Rattle.std.proofs.Common.{arith}
use Rattle.machine_tests.proofs.messages.keep_all.Goals as goal

-- the book keeps no message with this number or a greater one: none above `last`, and the number is above `last`, as was tested
pub keep-requires : goal.keep-requires
keep-requires c = λ n keeps. let low = c.loop-number.invariant n keeps in let above = c.if-number-last.false in omega (arith, low, above)
