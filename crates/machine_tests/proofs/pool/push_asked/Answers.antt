use Rattle.std.proofs.lemmas.List.Elements.{All-nil, All-push}
use Rattle.sip_machine.specs.Texts.{Keeps}
use Rattle.sip_machine.specs.Rules.{Knows}
use Rattle.machine_tests.proofs.pool.push_asked.Goals as goal

-- In both answers `first` is the state that is pushed, and `fits` says by `first_fits` that it names nothing (`.0`) and is in range (`.1`).

-- the first state names nothing, so the book has what the states name
pub take_entry-requires-clause-known : goal.take_entry-requires-clause-known
take_entry-requires-clause-known g c =
    let first = g.M.Machine.first c.args.machine.now in
    let fits = g.met.M.Machine.first_fits c.args.machine.now in
    rw (c.in_ok-push.ensures.ok, c.first.ensures)
    (All-push (Knows g.M.Machine.names c.args.book.now) c.args.pool.now first c.requires.known (rw fits.0 (All-nil (Keeps c.args.book.now))))

-- the first state of a machine is in range
pub take_entry-requires-clause-in_range : goal.take_entry-requires-clause-in_range
take_entry-requires-clause-in_range g c =
    let first = g.M.Machine.first c.args.machine.now in
    let fits = g.met.M.Machine.first_fits c.args.machine.now in
    rw (c.in_ok-push.ensures.ok, c.first.ensures) (All-push g.M.Machine.in_range c.args.pool.now first c.requires.in_range fits.1)
