use Rattle.std.proofs.Common.{◌≡◌, take}
use Rattle.indexmap.specs.IndexMap.{keys, values, index_map_len}
use Rattle.sip_states.specs.inner.Advance.{AdvancesAt}
use Rattle.sip_states.proofs.tables.advance_each.Given as goal

-- the sets of the indices so far have waited until the moment, and the keys are the same
abbrev pub invariant-loop-index : goal.invariant-loop-index
invariant-loop-index g l =
    record {
      keys_are : keys l.sets ≡ keys l.initial.sets;
      size : index_map_len l.sets ≡ index_map_len l.initial.sets;
      up : AdvancesAt l.moment (take l.index-index l.indices) (values l.initial.sets) (values l.sets);
    }
