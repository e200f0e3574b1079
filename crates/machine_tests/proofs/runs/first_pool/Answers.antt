use Rattle.std.specs.Prelude.{[]}
use Rattle.std.proofs.lemmas.List.Elements.{All-nil, All-push}
use Rattle.sip_machine.specs.Owing.{at_rest}
use Rattle.sip_machine.specs.Texts.{Keeps}
use Rattle.sip_machine.specs.Rules.{Knows}
use Rattle.machine_tests.proofs.runs.first_pool.Goals as goal

-- In both answers `first` is the state that is pushed to an empty pool, and `fits` says that it names nothing (`.0`) and is in range (`.1`).

-- the first state names nothing, so every book has what it names
pub returns-clause-known : goal.returns-clause-known
returns-clause-known g c = λ texts.
    let first = at_rest c.first.result in
    let fits = g.met.M.Machine.first_fits c.args.machine.now in
    rw (c.in_ok-push.ensures.ok, c.new-pool.ensures)
    (All-push (Knows g.M.Machine.names texts) [] first (All-nil (Knows g.M.Machine.names texts)) (rw (c.first.ensures, fits.0) (All-nil (Keeps texts))))

-- the first state of a machine is in range
pub returns-clause-in_range : goal.returns-clause-in_range
returns-clause-in_range g c =
    let first = at_rest c.first.result in
    let fits = g.met.M.Machine.first_fits c.args.machine.now in
    rw (c.in_ok-push.ensures.ok, c.new-pool.ensures)
    (All-push g.M.Machine.in_range [] first (All-nil g.M.Machine.in_range) (rw c.first.ensures fits.1))
