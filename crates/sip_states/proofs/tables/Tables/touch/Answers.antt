-- Of the marks, `named` are the flags of the sets that may name a message, and `moved` those of the sets that a restart may change.
use Rattle.std.proofs.Common.{◌≡◌, ◌<◌, ◌≤◌, ◌+◌, ◌∙◌, ◌++◌, ◌∷◌, [], None, false, ap, length, take, sym, subst, arith}
use Rattle.std.specs.Map.{values_of}
use Rattle.std.proofs.Math.Seq.{take-append_seam}
use Rattle.std.proofs.lemmas.List.{length-append, map-append}
use Rattle.std.proofs.lemmas.Map.Entries.{length-values_of, length-keys_of}
use Rattle.indexmap.specs.IndexMap.{keys, values, index_map_len}
use Rattle.sip_states.specs.AnySet.{IsQuietSet, start_of}
use Rattle.sip_states.specs.Sweep.{numbers_of}
use Rattle.sip_states.specs.Tables.{Tabled, most_keys}
use Rattle.sip_states.specs.inner.Marks.{AreMarked, AreMoved}
use Rattle.sip_states.proofs.due.AdvanceLemmas.{marked_push, within_push, start_names, start_quiet}
use Rattle.sip_states.proofs.keyed.TablesLemmas.{fresh-index}
use Rattle.sip_states.proofs.tables.Tables.touch.Goals as goal

-- Of the invariant of the tables (`c.self.invariant`) part 0 says that the keys are few, 1 that the agenda is as long as the keys, 2 and 4 that the marks
-- `named` and `moved` are, 3 that the first are right (AreMarked), and 5 that the second are (AreMoved). A new invariant has its parts in this order.

-- with a new key each list is longer by one, and its mark need not be set, since a new set names nothing and is quiet
pub invariant_of-self-2 : goal.invariant_of-self-2
invariant_of-self-2 g c =
    let inv = c.self.invariant in
    let t = c.self.inside in
    let sets = t.sets in
    let new = c.find_or_start.new.sets in
    let set = start_of t.params c.args.key in
    -- the key stands after the others, with the set that it starts with
    let high : length sets.entries ≤ c.in_ok-index.index = omega (arith, c.if-index-count.false, c.len-count.ensures.len) in
    let entries = (fresh-index t.params c.args.key c.in_ok-index.index sets.entries new.entries c.in_ok-index.ensures.ok high).2 in
    let size : index_map_len new ≡ index_map_len sets + 1 = ap length entries ∙ length-append sets.entries ((c.args.key, set) ∷ []) in
    let room : length (keys sets) < most_keys = subst (λ (t : Tabled). length t.keys < most_keys) (sym c.self.view_is) c.requires in
    let many = length-keys_of sets.entries in
    -- the agenda and the marks have one place more
    let agenda : length c.push_index.new.agenda ≡ length t.agenda + 1 = ap length c.in_default.ensures.agenda ∙ length-append t.agenda (None ∷ []) in
    let marks : length c.push_index.new.marks.named ≡ length t.marks.named + 1 = ap length c.in_default.ensures.marks ∙ length-append t.marks.named (false ∷ []) in
    let after : values new ≡ values sets ++ set ∷ [] = ap values_of entries ∙ map-append (λ e. e.1) sets.entries ((c.args.key, set) ∷ []) in
    -- the new set needs no mark, since it names nothing and is quiet
    let marked : AreMarked c.push_index.new.marks.named (values new)
    = rw (c.in_default.ensures.marks, after) (marked_push (λ s. numbers_of s ≡ []) t.marks.named (values sets) set (inv.2 ∙ sym (length-values_of sets.entries)) inv.3 (start_names t.params c.args.key)) in
    let moved : length c.push_index.new.marks.moved ≡ length t.marks.moved + 1 = ap length c.in_default.ensures.moved ∙ length-append t.marks.moved (false ∷ []) in
    let moves : AreMoved c.push_index.new.marks.moved c.push_index.new.marks.named (values new) = rw (c.in_default.ensures.marks, c.in_default.ensures.moved, after) (record {
      quiet = marked_push IsQuietSet t.marks.moved (values sets) set (inv.4 ∙ sym (length-values_of sets.entries)) inv.5.quiet (start_quiet t.params c.args.key);
      within = within_push t.marks.named t.marks.moved (inv.2 ∙ sym inv.4) inv.5.within;
    }) in
    (omega (arith, size, room, many), omega (arith, size, agenda, inv.1), omega (arith, size, marks, inv.2), marked, omega (arith, size, moved, inv.4), moves)

-- where memory is refused, the new key goes again, and all is as before
pub invariant_of-self-in-Err : goal.invariant_of-self-in-Err
invariant_of-self-in-Err g c =
    let t = c.self.inside in
    let sets = t.sets in
    let set = start_of t.params c.args.key in
    -- the key stood after the others, and the cut takes it away
    let high : length sets.entries ≤ c.in_ok-index.index = omega (arith, c.if-index-count.false, c.len-count.ensures.len) in
    let entries = (fresh-index t.params c.args.key c.in_ok-index.index sets.entries c.find_or_start.new.sets.entries c.in_ok-index.ensures.ok high).2 in
    let back : c.truncate.new.self.entries ≡ sets.entries
    = c.truncate.ensures.entries ∙ ap (λ n. take n c.find_or_start.new.sets.entries) c.len-count.ensures.len ∙ ap (take (length sets.entries)) entries ∙ take-append_seam sets.entries ((c.args.key, set) ∷ []) in
    let size : index_map_len c.truncate.new.self ≡ index_map_len sets = ap length back in
    let after : values c.truncate.new.self ≡ values sets = ap values_of back in
    rw (c.in-Err.ensures.err.0, c.in-Err.ensures.err.1, size, after) c.self.invariant
