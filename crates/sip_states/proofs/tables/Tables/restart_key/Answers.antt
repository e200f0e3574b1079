-- Of the marks, `named` are the flags of the sets that may name a message, and `moved` those of the sets that a restart may change.
use Rattle.std.proofs.Common.{◌≡◌, ◌≤◌, ◌-◌, ◌∙◌, [], None, Some, length, slice_get, slice_set, sym, ap, subst}
use Rattle.std.proofs.lemmas.List.{length-set}
use Rattle.indexmap.specs.IndexMap.{keys, values, index_map_len}
use Rattle.indexmap.proofs.CallerLemmas.{keys-with_value_at, index_map_len-with_value_at}
use Rattle.sip_states.specs.AnySet.{IsQuietSet}
use Rattle.sip_states.specs.Sweep.{numbers_of}
use Rattle.sip_states.specs.Tables.{Tabled, most_keys}
use Rattle.sip_states.specs.inner.Marks.{AreMarked, AreMoved}
use Rattle.sip_states.proofs.keyed.TablesLemmas.{values_of-set_value_at}
use Rattle.sip_states.proofs.due.AdvanceLemmas.{start_names, start_quiet}
use Rattle.sip_states.proofs.keyed.StartLemmas.{start_endless, else_set}
use Rattle.sip_states.proofs.tables.Tables.restart_key.Goals as goal

-- Of the invariant of the tables (`c.self.invariant`) part 0 says that the keys are few, 1 that the agenda is as long as the keys, 2 and 4 that the marks
-- `named` and `moved` are, 3 that the first are right (AreMarked), and 5 that the second are (AreMoved). A new invariant has its parts in this order.

-- the set that begins anew names nothing and is quiet, so the marks are right with it
pub invariant_of-self-2 : goal.invariant_of-self-2
invariant_of-self-2 g c =
    let inv = c.self.invariant in
    let sets = c.self.inside.sets in
    let marks = c.self.inside.marks.named in
    let moved = c.self.inside.marks.moved in
    let index = c.args.number - 1 in
    let set = c.in_ok-set.set in
    let now = c.put_at.ensures in
    -- there are as many sets as before, with the new one at the index
    let size : index_map_len c.put_at.new.sets ≡ index_map_len sets = ap index_map_len now ∙ index_map_len-with_value_at sets index set in
    let are : values c.put_at.new.sets ≡ slice_set (values sets) index set = ap values now ∙ values_of-set_value_at sets.entries index set in
    let silent : numbers_of set ≡ [] = subst (λ s. numbers_of s ≡ []) (sym c.in_ok-set.ensures) (start_names c.self.inside.params c.key.result.now) in
    let still : IsQuietSet set = subst IsQuietSet (sym c.in_ok-set.ensures) (start_quiet c.self.inside.params c.key.result.now) in
    -- the new set names nothing and is quiet, so neither mark is wanted
    let marked : AreMarked marks (values c.put_at.new.sets) = subst (AreMarked marks) (sym are) (else_set (λ s. numbers_of s ≡ []) marks (values sets) index set silent inv.3) in
    let moves : AreMoved moved marks (values c.put_at.new.sets) = subst (AreMoved moved marks) (sym are) (record { quiet = else_set IsQuietSet moved (values sets) index set still inv.5.quiet; within = inv.5.within }) in
    (subst (λ n. n ≤ most_keys) (sym size) inv.0, ap length c.in_ok-set-2.ensures.ok ∙ length-set c.self.inside.agenda index (Some None) ∙ inv.1 ∙ sym size, inv.2 ∙ sym size, marked, inv.4 ∙ sym size, moves)

-- the key's set is the one that it starts with, and its record says that it can wait without end
pub returns-clause-ok : goal.returns-clause-ok
returns-clause-ok g c =
    let p = c.self.inside.params in
    let sets = c.self.inside.sets in
    let index = c.args.number - 1 in
    let key = c.key.result.now in
    -- the set is the one with which the key starts, and it has no last moment
    rw (← c.self.view_is) (record {
      key = key;
      at = ap (λ (t : Tabled). slice_get t.keys index) c.self.view_is ∙ c.key.ensures;
      endless = start_endless p key;
      -- the tables are as before, but for this set and its record
      begun = λ i. record {
        times = p;
        keys = (ap keys c.put_at.ensures ∙ keys-with_value_at sets index c.in_ok-set.set) i;
        sets = (ap values c.put_at.ensures ∙ values_of-set_value_at sets.entries index c.in_ok-set.set ∙ ap (slice_set (values sets) index) c.in_ok-set.ensures) i;
        records = c.in_ok-set-2.ensures.ok i;
      };
    })
