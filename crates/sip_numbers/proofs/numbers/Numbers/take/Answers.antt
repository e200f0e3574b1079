use Rattle.std.proofs.Common.{arith}
use Rattle.sip_numbers.proofs.PlaceLemmas.{told}
use Rattle.sip_numbers.proofs.numbers.Numbers.take.Goals as goal

-- no word is of the block of the number, so the number is not there
pub returns-in_default : goal.returns-in_default
returns-in_default c n = grind (arith, told)
