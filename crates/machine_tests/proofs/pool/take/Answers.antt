use Rattle.std.proofs.Common.{◌<◌, ◌-◌, All, arith, length}
use Rattle.std.proofs.lemmas.List.Elements.{All-append}
use Rattle.sip_machine.specs.Rules.{Knows}
use Rattle.machine_tests.proofs.Picked.{all_moved}
use Rattle.machine_tests.proofs.pool.take.Goals as goal

-- `ok` says what the call `successors` has left: the old states, and after them `ok.0`, those that it gave (`ok.1`), of which `ok.2` tells.
-- `given` is both, `count` how many the old states are, and `first` is what is taken at a place that is not in a list.

-- the first state that was given is moved to the last old place, and the others are dropped: the book has all that those that are left name
pub returns-then-len-count-clause-known : goal.returns-then-len-count-clause-known
returns-then-len-count-clause-known g c =
    let first = g.M.Machine.first c.args.machine.now in
    let ok = c.in_ok-successors.ensures.ok first in
    let count = c.len-count.result in
    let given = c.successors.new.pool in
    let low : count < length given = omega (arith, c.if-len-count.true, c.len.ensures) in
    let all : All (Knows g.M.Machine.names c.args.book.now) given = rw ok.1 (All-append (Knows g.M.Machine.names c.args.book.now) c.args.pool.now ok.0 c.requires.known ok.2.known) in
    rw (c.truncate.ensures, c.copy.ensures first) (all_moved (Knows g.M.Machine.names c.args.book.now) given count (count - 1) count first low all)

-- the same move, and the moments of all states are in range
pub returns-then-len-count-clause-in_range : goal.returns-then-len-count-clause-in_range
returns-then-len-count-clause-in_range g c =
    let first = g.M.Machine.first c.args.machine.now in
    let ok = c.in_ok-successors.ensures.ok first in
    let count = c.len-count.result in
    let given = c.successors.new.pool in
    let low : count < length given = omega (arith, c.if-len-count.true, c.len.ensures) in
    let all : All g.M.Machine.in_range given = rw ok.1 (All-append g.M.Machine.in_range c.args.pool.now ok.0 c.requires.in_range ok.2.in_range) in
    rw (c.truncate.ensures, c.copy.ensures first) (all_moved g.M.Machine.in_range given count (count - 1) count first low all)

-- where no state was given, nothing is moved, and the book has all that the states name
pub returns-else-len-count-clause-known : goal.returns-else-len-count-clause-known
returns-else-len-count-clause-known g c =
    let ok = c.in_ok-successors.ensures.ok (g.M.Machine.first c.args.machine.now) in
    rw ok.1 (All-append (Knows g.M.Machine.names c.args.book.now) c.args.pool.now ok.0 c.requires.known ok.2.known)

-- where no state was given, the moments of the states are in range
pub returns-else-len-count-clause-in_range : goal.returns-else-len-count-clause-in_range
returns-else-len-count-clause-in_range g c =
    let ok = c.in_ok-successors.ensures.ok (g.M.Machine.first c.args.machine.now) in
    rw ok.1 (All-append g.M.Machine.in_range c.args.pool.now ok.0 c.requires.in_range ok.2.in_range)
