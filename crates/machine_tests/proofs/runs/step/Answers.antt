use Rattle.std.proofs.Common.{◌<◌, length, All, arith, length-append, sym, subst}
use Rattle.std.proofs.lemmas.List.Elements.{All-append}
use Rattle.sip_machine.specs.Rules.{Knows}
use Rattle.machine_tests.proofs.Picked.{all_picked}
use Rattle.machine_tests.proofs.runs.step.Goals as goal

-- `ok` says what the call `successors` has left: the states before it, and after them `ok.0`, those that it gave (`ok.1`, `ok.2`).
-- `first` is what is taken at a place that is not in a list.

-- after one state more was asked, the book has all that the states name, and all are in range
pub loop-at-preserved : goal.loop-at-preserved
loop-at-preserved g c =
    let ok = c.in_ok-successors.ensures.ok (g.M.Machine.first c.args.machine.now) in
    let before = c.loop-at.pool in
    let is = c.loop-at.invariant in
    rw ok.1
    (record {
      -- what was appended has the same properties as what was there
      within = let long = length-append before ok.0 in omega (arith, is.within);
      known = All-append (Knows g.M.Machine.names c.args.book.now) before ok.0 is.known ok.2.known;
      in_range = All-append g.M.Machine.in_range before ok.0 is.in_range ok.2.in_range;
    })

-- the states that are kept are some of those that were found, so the book has all that they name: the rows of `given` are places of the pool (`within`)
pub returns-clause-known : goal.returns-clause-known
returns-clause-known g c =
    let first = g.M.Machine.first c.args.machine.now in
    rw (c.keep.ensures first, c.deref.ensures.value)
    (all_picked (Knows g.M.Machine.names c.args.book.now) c.loop-at.pool first c.in_ok-given.given.items c.loop-at.invariant.known (rw (← c.len.ensures) c.in_ok-given.ensures.within))

-- the states that are kept are among those whose moments are in range
pub returns-clause-in_range : goal.returns-clause-in_range
returns-clause-in_range g c =
    let first = g.M.Machine.first c.args.machine.now in
    rw (c.keep.ensures first, c.deref.ensures.value)
    (all_picked g.M.Machine.in_range c.loop-at.pool first c.in_ok-given.given.items c.loop-at.invariant.in_range (rw (← c.len.ensures) c.in_ok-given.ensures.within))
