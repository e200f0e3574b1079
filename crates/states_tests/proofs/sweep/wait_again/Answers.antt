use Rattle.states_tests.proofs.Known.{some_early}
use Rattle.states_tests.proofs.sweep.wait_again.Goals as goal

-- the sets that have waited are at the moment, and the others are not later
-- The call is the second one, after the first was refused memory when some sets had perhaps waited already.
pub advance_all-requires-in-Err : goal.advance_all-requires-in-Err
advance_all-requires-in-Err c = some_early c.args.moment c.args.tables.now c.advance_all.new.self c.in-Err.ensures.err c.requires
