use Rattle.std.proofs.Common.{arith}
use Rattle.sip_numbers.proofs.WordLemmas.{first-of}
use Rattle.sip_numbers.proofs.numbers.first_from.Goals as goal

-- the lowest bit that is left is that of the first number
pub returns-clause-found : goal.returns-clause-found
returns-clause-found c =
    first-of c.args.word c.args.from (omega arith) (rw c.saturating_sub-low.ensures at c.if-bits-eq0.false)
    (rw c.saturating_sub-low.ensures at c.from.ensures)
