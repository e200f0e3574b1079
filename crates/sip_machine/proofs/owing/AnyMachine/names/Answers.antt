use Rattle.std.specs.Prelude.{◌≡◌, ◌<◌, ◌++◌, get_or}
use Rattle.std.proofs.Common.{◌∙◌, ap, sym, subst, append_assoc}
use Rattle.sip_machine.specs.Owes.{owed_in, owes_names}
use Rattle.sip_machine.specs.Owing.{owing_names}
use Rattle.sip_machine.proofs.pools.PoolLemmas.{in-phases, in-rows, state-here}
use Rattle.sip_ledger.proofs.lists.EachLemmas.{on_ok}
use Rattle.sip_machine.proofs.owing.AnyMachine.names.Goals as goal

-- the index is one of the phases
pub index-requires : goal.index-requires
index-requires g c =
    subst (λ n. c.args.at < n) (sym c.pool.inside.phases.ok.0) (in-phases c.pool.inside.phases.items c.pool.inside.dues c.args.pool.now c.args.at c.pool.view_is c.requires)

-- the index is one of the rows that owe
pub names-requires : goal.names-requires
names-requires g c = in-rows c.pool.inside.phases.items c.pool.inside.dues c.args.pool.now c.args.at c.pool.view_is c.pool.invariant c.requires

-- the numbers that were appended are those that the phase names and then those of what is owed
pub returns-clause-ok : goal.returns-clause-ok
returns-clause-ok g c = λ d.
    let names = g.M.Phases.names in
    let p = c.index.result.now in
    let owes = owed_in c.pool.inside.dues c.args.at in
    -- the state at the index is the phase there with what its row owes
    let here = state-here c.pool.inside.phases.items c.pool.inside.dues c.args.pool.now c.args.at p d c.pool.view_is c.requires c.index.ensures in
    let old = c.args.out.now.items in
    let x = get_or c.args.pool.now c.args.at d in
    let owed = on_ok c.names.result _ (rw c.is_err.ensures.value at c.if-is_err.false) c.names.ensures.ok in
    let whole : c.names.new.numbers.items ≡ old ++ (names p ++ owes_names owes) =
    owed ∙ ap (λ ns. ns ++ owes_names owes) (c.in_ok-push_some.ensures.ok ∙ ap (λ ns. old ++ ns) c.message.ensures) ∙ append_assoc old (names p) (owes_names owes) in
    (owing_names names x, whole ∙ ap (λ y. old ++ owing_names names y) here, λ n. (λ h. h, λ h. h))
