use Rattle.std.proofs.Common.{sym, ◌∙◌}
use Rattle.std.proofs.lemmas.Map.Made.{AllPairs-from_IsDistinct}
use Rattle.std.proofs.lemmas.Map.Entries.{length-keys_of, length-values_of}
use Rattle.indexmap.specs.IndexMap.{keys}
use Rattle.sip_standard.proofs.SameKey.{same_key-decides}
use Rattle.sip_states.proofs.tables.Tables.known.Goals as goal

-- Of the invariant of the tables (`c.self.invariant`) part 0 says that the keys are few, 1 that the agenda is as long as the keys, 2 and 4 that the marks
-- `named` and `moved` are, 3 that the first are right (AreMarked), and 5 that the second are (AreMoved). A new invariant has its parts in this order.

-- the map keeps no key twice
pub returns-clause-unique : goal.returns-clause-unique
returns-clause-unique g c = rw (← c.self.view_is) (AllPairs-from_IsDistinct same_key-decides (keys c.self.inside.sets) c.len.ensures.unique)

-- the map has a set for each key
pub returns-clause-sets : goal.returns-clause-sets
returns-clause-sets g c =
    rw (← c.self.view_is) (length-values_of c.self.inside.sets.entries ∙ sym (length-keys_of c.self.inside.sets.entries))

-- the agenda has a place for each key
pub returns-clause-records : goal.returns-clause-records
returns-clause-records g c =
    rw (← c.self.view_is) (c.self.invariant.1 ∙ sym (length-keys_of c.self.inside.sets.entries))
