use Rattle.std.proofs.Common.{arith}
use Rattle.machine_tests.proofs.acks.keep_with_tos.Goals as goal
use Rattle.machine_tests.proofs.acks.keep_with_tos.Goals.{then-number-below+in_ok-keep_to, else-number-below}

-- the book keeps no message with this number or a greater one: none above `last`, and the number is above `last`, as was tested
pub keep_text-requires : goal.keep_text-requires
keep_text-requires c = λ n keeps. let low = c.loop-number.invariant n keeps in let above = c.if-number-last.false in omega (arith, low, above)

-- with the message the book keeps none after it
-- whether the To of the message was kept beside it (`then`) or not (`else`), the messages of the book are the same
pub loop-number-preserved : goal.loop-number-preserved
loop-number-preserved c = λ n keeps. elim c.if-number-below.branch [
  | then-number-below+in_ok-keep_to w ↦ c.in_ok-keep_text.ensures n (rw (w.book-is, w.keep_to.ensures) at keeps)
  | else-number-below w ↦ c.in_ok-keep_text.ensures n (rw w.book-is at keeps)
]
