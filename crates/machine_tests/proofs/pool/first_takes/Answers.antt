use Rattle.machine_tests.proofs.Errors.{always_err}
use Rattle.machine_tests.proofs.pool.first_takes.Goals as goal

-- The clauses say something of an error alone. `always_err` gives them from a fact that holds of the states whatever was answered.

-- where memory was refused, the states are as before, and the book has what they name
pub returns-in_err-successors-clause-known : goal.returns-in_err-successors-clause-known
returns-in_err-successors-clause-known g c = always_err c.from_residual.result (rw c.in_err-successors.ensures.err c.requires.known)

-- where memory was refused, the states are as before, and so are their moments
pub returns-in_err-successors-clause-in_range : goal.returns-in_err-successors-clause-in_range
returns-in_err-successors-clause-in_range g c = always_err c.from_residual.result (rw c.in_err-successors.ensures.err c.requires.in_range)
