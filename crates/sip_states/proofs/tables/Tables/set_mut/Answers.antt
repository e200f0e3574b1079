-- Of the marks, `named` are the flags of the sets that may name a message, and `moved` those of the sets that a restart may change.
use Rattle.std.proofs.Common.{◌≡◌, ◌-◌, ◌∙◌, [], refl, sym, slice_set, true}
use Rattle.std.proofs.lemmas.List.{length-set}
use Rattle.indexmap.specs.IndexMap.{values, with_value_at}
use Rattle.indexmap.proofs.CallerLemmas.{keys-with_value_at, index_map_len-with_value_at}
use Rattle.sip_states.specs.AnySet.{IsQuietSet}
use Rattle.sip_states.specs.Sweep.{numbers_of}
use Rattle.sip_states.specs.inner.Marks.{AreMarked, AreMoved}
use Rattle.sip_states.proofs.keyed.TablesLemmas.{values_of-set_value_at}
use Rattle.sip_states.proofs.due.AdvanceLemmas.{marked_set, within_set}
use Rattle.sip_states.proofs.tables.Tables.set_mut.Goals as goal

-- Of the invariant of the tables (`c.self.invariant`) part 0 says that the keys are few, 1 that the agenda is as long as the keys, 2 and 4 that the marks
-- `named` and `moved` are, 3 that the first are right (AreMarked), and 5 that the second are (AreMoved). A new invariant has its parts in this order.

-- whatever is left in the set that was lent, its marks are set and so they are right
pub invariant_of-self-lent : goal.invariant_of-self-lent
invariant_of-self-lent g c w =
    let inv = c.self.invariant in
    let sets = c.self.inside.sets in
    let marks = c.self.inside.marks.named in
    let moved = c.self.inside.marks.moved in
    let index = c.args.number - 1 in
    -- both marks of the index are set, and the others are as they were
    let marked : AreMarked (slice_set marks index true) (values (with_value_at sets index w))
    = rw (values_of-set_value_at sets.entries index w) (marked_set (λ s. numbers_of s ≡ []) marks (values sets) index w inv.3) in
    let moves : AreMoved (slice_set moved index true) (slice_set marks index true) (values (with_value_at sets index w)) = rw (values_of-set_value_at sets.entries index w) (record {
      quiet = marked_set IsQuietSet moved (values sets) index w inv.5.quiet;
      within = within_set marks moved index true (inv.2 ∙ sym inv.4) inv.5.within;
    }) in
    rw (index_map_len-with_value_at sets index w, c.mark.ensures.named, c.mark.ensures.moved)
    (inv.0, inv.1, length-set marks index true ∙ inv.2, marked, length-set moved index true ∙ inv.4, moves)

-- the set may be changed, and nothing else with it
pub returns : goal.returns
returns g c = (
  (refl, λ w. rw (← c.self.view_is, keys-with_value_at c.self.inside.sets (c.args.number - 1) w, values_of-set_value_at c.self.inside.sets.entries (c.args.number - 1) w) refl),
  record { writes_back = tt; value = rw (← c.self.view_is) c.index_mut.ensures.value },
)
