use Rattle.std.proofs.lemmas.List.Elements.{All-take}
use Rattle.std.proofs.lemmas.Result.{on_ok_weaker}
use Rattle.sip_machine.specs.Rules.{Knows}
use Rattle.machine_tests.proofs.Picked.{all_first_ones}
use Rattle.machine_tests.proofs.runs.step_beside.Goals as goal

-- `added` are the states that `successors_each` has put after the others, `is` says so, and `covers` tells what holds of each of them. `found` are
-- all states then, and `first` is what is taken at a place that is not in a list.

-- the book has what the first states name
pub successors_each-requires-clause-known : goal.successors_each-requires-clause-known
successors_each-requires-clause-known g c = All-take (Knows g.M.Machine.names c.args.book.now) c.len-count.result c.args.pool.now c.requires.known

-- the moments of the first states are in range
pub successors_each-requires-clause-in_range : goal.successors_each-requires-clause-in_range
successors_each-requires-clause-in_range g c = All-take g.M.Machine.in_range c.len-count.result c.args.pool.now c.requires.in_range

-- the states that are kept are some of those that were found, so the book has all that they name
pub returns-clause-known : goal.returns-clause-known
returns-clause-known g c =
    let first = g.M.Machine.first c.args.machine.now in
    let (added, is, covers) = c.in_ok-successors_each.ensures.gives in
    let found = c.successors_each.new.pool in
    on_ok_weaker c.keep_first_ones.result
    (all_first_ones (Knows g.M.Machine.names c.args.book.now) c.args.pool.now added found first c.len-count.result c.keep_first_ones.new.pool is c.len-count.ensures covers.known)
    (c.keep_first_ones.ensures first)

-- the states that are kept are some of those that were found, so they are in range
pub returns-clause-in_range : goal.returns-clause-in_range
returns-clause-in_range g c =
    let first = g.M.Machine.first c.args.machine.now in
    let (added, is, covers) = c.in_ok-successors_each.ensures.gives in
    let found = c.successors_each.new.pool in
    on_ok_weaker c.keep_first_ones.result
    (all_first_ones g.M.Machine.in_range c.args.pool.now added found first c.len-count.result c.keep_first_ones.new.pool is c.len-count.ensures covers.in_range)
    (c.keep_first_ones.ensures first)
