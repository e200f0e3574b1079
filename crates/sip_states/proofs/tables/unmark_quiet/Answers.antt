-- Of the marks, `named` are the flags of the sets that may name a message, and `moved` those of the sets that a restart may change.
use Rattle.std.proofs.Common.{◌≡◌, ◌∙◌, [], false, ap, length, true, arith}
use Rattle.std.proofs.lemmas.Option.{slice_get_within}
use Rattle.std.proofs.lemmas.List.{length-set}
use Rattle.indexmap.specs.IndexMap.{values}
use Rattle.sip_states.specs.AnySet.{IsQuietSet}
use Rattle.sip_states.specs.Sweep.{numbers_of}
use Rattle.sip_states.specs.inner.Marks.{IsMarked}
use Rattle.sip_states.proofs.keyed.ByMachine.{quiet_silent}
use Rattle.sip_states.proofs.due.AdvanceLemmas.{item_among, unmarked, within_set}
use Rattle.sip_states.proofs.tables.unmark_quiet.Goals as goal

-- each marked index is one of the sets
pub index-requires : goal.index-requires
index-requires g c =
    let moved = c.loop-place.marks.moved in
    let index = c.in-Some.index in
    let mark : IsMarked moved index = (c.moved.ensures.members index).0 (item_among _ _ _ _ _ c.get.ensures.lookup c.copied.ensures c.in-Some.is) in
    let low = slice_get_within moved index true mark in
    rw c.loop-place.invariant.same (omega (arith, low, c.loop-place.invariant.long, c.requires.long.0))

-- the index is one of the marks
pub unmark-requires : goal.unmark-requires
unmark-requires g c =
    let moved = c.loop-place.marks.moved in
    let index = c.in-Some.index in
    let mark : IsMarked moved index = (c.moved.ensures.members index).0 (item_among _ _ _ _ _ c.get.ensures.lookup c.copied.ensures c.in-Some.is) in
    let low = slice_get_within moved index true mark in
    omega (arith, low, c.loop-place.invariant.long, c.loop-place.invariant.as_long, c.requires.long.0, c.requires.long.1)

-- where the set at the index is quiet, both its marks go, and the marks stay right
pub loop-place-preserved-then-is_quiet : goal.loop-place-preserved-then-is_quiet
loop-place-preserved-then-is_quiet g c =
    let moved = c.loop-place.marks.moved in
    let marks = c.loop-place.marks.named in
    let index = c.in-Some.index in
    let inv = c.loop-place.invariant in
    let set = c.index.result.now in
    let at = rw inv.same at c.index.ensures in
    -- a quiet set needs no mark: it names nothing, and a restart does not change it
    let quiet : IsQuietSet set = c.is_quiet.ensures.0 c.if-is_quiet.true in
    let as_long : length marks ≡ length moved = omega (arith, inv.long, inv.as_long, c.requires.long.0, c.requires.long.1) in
    record {
      long = ap length c.unmark.ensures.moved ∙ length-set moved index false ∙ inv.long;
      as_long = ap length c.unmark.ensures.named ∙ length-set marks index false ∙ inv.as_long;
      marked = rw c.unmark.ensures.named (unmarked (λ s. numbers_of s ≡ []) marks (values c.args.sets.now) index set inv.marked at (quiet_silent set quiet));
      -- the set is quiet, and each other one without the mark is
      moves = rw (c.unmark.ensures.moved, c.unmark.ensures.named) (record {
        quiet = unmarked IsQuietSet moved (values c.args.sets.now) index set inv.moves.quiet at quiet;
        within = within_set marks moved index false as_long inv.moves.within;
      });
      same = c.trim_at.ensures ∙ inv.same;
    }
