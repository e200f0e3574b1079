use Rattle.std.proofs.Common.{arith}
use Rattle.machine_tests.proofs.tests.takes_the_next.Goals as goal

-- the number that comes next is above those of the book
pub add-requires : goal.add-requires
add-requires g c = λ n keeps. let low = c.requires n keeps in omega (arith, low)
