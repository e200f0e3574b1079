use Rattle.std.proofs.Common.{ap}
use Rattle.indexmap.specs.IndexMap.{with_entries}
use Rattle.sip_states.proofs.keyed.TablesLemmas.{set_value_at-same}
use Rattle.sip_states.proofs.tables.trim_at.Goals as goal

-- a set without the memory that it does not need is the same set
pub returns : goal.returns
returns g c =
    let sets = c.args.sets.now in
    let at = rw (← c.trim.ensures) at c.index_mut.ensures.value in
    ap (with_entries sets) (set_value_at-same sets.entries c.args.index c.trim.new.self at)
