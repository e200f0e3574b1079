-- Of the marks, `named` are the flags of the sets that may name a message, and `moved` those of the sets that a restart may change.
use Rattle.std.proofs.Common.{◌≡◌, ◌∙◌, [], true, false, ap, subst, length, arith}
use Rattle.std.proofs.lemmas.Grind.{common_steps}
use Rattle.std.proofs.lemmas.Option.{slice_get_within}
use Rattle.std.proofs.lemmas.List.{length-set, nil_from_length}
use Rattle.indexmap.specs.IndexMap.{values}
use Rattle.sip_states.specs.Sweep.{numbers_of}
use Rattle.sip_states.specs.inner.Marks.{IsMarked}
use Rattle.sip_states.proofs.keyed.ByMachine.{numbers_appended}
use Rattle.sip_states.proofs.keyed.NamesLemmas.{names_nothing}
use Rattle.sip_states.proofs.due.AdvanceLemmas.{item_among, unmarked, not_unmarked}
use Rattle.sip_states.proofs.tables.unmark_silent.Goals as goal

-- each marked index is one of the sets
pub index-requires : goal.index-requires
index-requires g c =
    let marks = c.loop-place.marks.named in
    let index = c.in-Some.index in
    let mark : IsMarked marks index = (c.named.ensures.members index).0 (item_among _ _ _ _ _ c.get.ensures.lookup c.copied.ensures c.in-Some.is) in
    let low = slice_get_within marks index true mark in
    rw c.loop-place.invariant.same (omega (arith, low, c.loop-place.invariant.long, c.requires.long))

-- the index is one of the marked ones
pub unmark_named-requires : goal.unmark_named-requires
unmark_named-requires g c =
    let marks = c.loop-place.marks.named in
    let index = c.in-Some.index in
    let mark : IsMarked marks index = (c.named.ensures.members index).0 (item_among _ _ _ _ _ c.get.ensures.lookup c.copied.ensures c.in-Some.is) in
    slice_get_within marks index true mark

-- where the set at the index names nothing, its mark goes, and the marks stay right
pub loop-place-preserved-then-is_empty : goal.loop-place-preserved-then-is_empty
loop-place-preserved-then-is_empty g c =
    let marks = c.loop-place.marks.named in
    let index = c.in-Some.index in
    let set = c.index.result.now in
    -- the set names nothing, so it needs no mark
    let none : length c.names.new.out.items ≡ 0 = grind (arith, common_steps) in
    let empty : c.names.new.out.items ≡ [] = nil_from_length c.names.new.out.items none in
    let silent : numbers_of set ≡ [] = names_nothing (numbers_of set) c.clear.new.self.items c.names.new.out.items c.clear.ensures.items empty
    (numbers_appended set c.clear.new.self.items c.names.new.out.items c.in_ok-names.ensures) in
    -- the mark of the index is gone, and the others stay
    record {
      long = ap length c.unmark_named.ensures.named ∙ length-set marks index false ∙ c.loop-place.invariant.long;
      marked = rw c.unmark_named.ensures.named (unmarked (λ s. numbers_of s ≡ []) marks (values c.args.sets.now) index set c.loop-place.invariant.marked (rw c.loop-place.invariant.same at c.index.ensures) silent);
      fewer = λ n mark. c.loop-place.invariant.fewer n (not_unmarked marks index n (subst (λ ms. IsMarked ms n) c.unmark_named.ensures.named mark));
      moved = c.unmark_named.ensures.moved ∙ c.loop-place.invariant.moved;
      same = c.trim_at.ensures ∙ c.loop-place.invariant.same;
    }
