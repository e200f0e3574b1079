use Rattle.std.proofs.Common.{arith}
use Rattle.std.proofs.lemmas.Grind.{common_steps}
use Rattle.std.proofs.lemmas.Bool.Decides.{nat_tests}
use Rattle.sip_machine.proofs.texts.RetainLemmas.{moves_some, moves_none}
use Rattle.sip_machine.proofs.book.retain.move_places.Goals as goal

-- one place more is moved if its message is kept, and is dropped otherwise
pub loop-i-preserved : goal.loop-i-preserved
loop-i-preserved c = grind (arith, nat_tests, common_steps, moves_some, moves_none)
