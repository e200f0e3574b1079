use Rattle.std.specs.Prelude.{flat_map}
use Rattle.std.proofs.Common.{sym, subst}
use Rattle.sip_machine.specs.Naming.{AppendsAll}
use Rattle.sip_machine.specs.Owing.{owing_names}
use Rattle.sip_machine.proofs.debts.NamesLemmas.{pool-appends}
use Rattle.sip_machine.proofs.owing.name_pool.Goals as goal

-- the names of all phases and then those of all debts are the names of all states, in another order
pub returns-clause-ok : goal.returns-clause-ok
returns-clause-ok g c =
    let names = g.M.Phases.names in
    let old = c.args.out.now.items in
    let mid = c.name_phases.new.out.items in
    let new = c.names_all.new.numbers.items in
    -- what the phases name was appended first, and then what is owed
    let first = subst (λ xs. AppendsAll (flat_map (λ x. names x.phase) xs) old mid) (sym c.pool.view_is) c.in_ok-name_phases.ensures.ok in
    subst (λ xs. AppendsAll (flat_map (owing_names names) xs) old new) c.pool.view_is
    (pool-appends names c.pool.inside.phases.items c.pool.inside.dues old mid new c.pool.invariant first c.in_ok-names_all.ensures.ok)
