-- Of the marks, `named` are the flags of the sets that may name a message, and `moved` those of the sets that a restart may change.
use Rattle.std.proofs.Common.{◌≡◌, ◌≤◌, ◌<◌, ◌∙◌, refl, sym, ap, subst, get_or, length, true, false, arith}
use Rattle.std.proofs.lemmas.Bool.{false≢true}
use Rattle.std.proofs.lemmas.Option.{slice_get_within}
use Rattle.std.proofs.lemmas.Map.Entries.{length-values_of}
use Rattle.indexmap.specs.IndexMap.{values, index_map_len}
use Rattle.sip_states.specs.Tables.{most_keys}
use Rattle.sip_states.specs.inner.Marks.{IsMarked}
use Rattle.sip_states.proofs.lists.Kept.{all_marked, marked_within}
use Rattle.sip_states.proofs.due.AdvanceLemmas.{all_advance, always_err, place_among, some_advance}
use Rattle.sip_states.proofs.tables.Tables.wait_all.Goals as goal

-- Of the invariant of the tables (`c.self.invariant`) part 0 says that the keys are few, 1 that the agenda is as long as the keys, 2 and 4 that the marks
-- `named` and `moved` are, 3 that the first are right (AreMarked), and 5 that the second are (AreMoved). A new invariant has its parts in this order.

-- each marked index is one of the sets
pub advance_each-requires-clause-inside : goal.advance_each-requires-clause-inside
advance_each-requires-clause-inside g c =
    λ k d low.
    let marks = c.in_ok-marks.marks.moved in
    let index = get_or c.moved.result.now k d in
    let mark : IsMarked marks index = (c.moved.ensures.members index).0 (place_among c.moved.result.now k d low) in
    let within = slice_get_within marks index true mark in
    omega (arith, within, c.in_ok-marks.ensures.long.1, c.len.ensures.len)

-- every set is marked, whether all of them have waited or only some
pub invariant_of-self : goal.invariant_of-self
invariant_of-self g c =
    let marks = c.in_ok-marks.marks.named in
    let moved = c.in_ok-marks.marks.moved in
    let size = c.in_err-advance_each.ensures.size in
    -- there are as many marks as sets, and all are set
    let marks_long = c.in_ok-marks.ensures.long.0 ∙ c.len.ensures.len ∙ sym size in
    let moved_long = c.in_ok-marks.ensures.long.1 ∙ c.len.ensures.len ∙ sym size in (
      subst (λ n. n ≤ most_keys) (sym size) c.self.invariant.0,
      c.self.invariant.1 ∙ sym size,
      marks_long,
      λ index set at unmarked. absurd (false≢true (all_marked marks c.in_ok-marks.ensures.named index false unmarked)),
      moved_long,
      -- each set has its second mark too
      record {
        quiet = λ index set at unmarked. absurd (false≢true (all_marked moved c.in_ok-marks.ensures.moved index false unmarked));
        within = marked_within marks moved (marks_long ∙ sym moved_long) c.in_ok-marks.ensures.moved;
      },
    )

-- all marks are set, so they are right whatever the sets are
pub invariant_of-self-2 : goal.invariant_of-self-2
invariant_of-self-2 g c =
    let marks = c.in_ok-marks.marks.named in
    let moved = c.in_ok-marks.marks.moved in
    let size = c.in_ok-advance_each.ensures.size in
    -- there are as many marks as sets, and all are set
    let marks_long = c.in_ok-marks.ensures.long.0 ∙ c.len.ensures.len ∙ sym size in
    let moved_long = c.in_ok-marks.ensures.long.1 ∙ c.len.ensures.len ∙ sym size in (
      subst (λ n. n ≤ most_keys) (sym size) c.self.invariant.0,
      c.self.invariant.1 ∙ sym size,
      marks_long,
      λ index set at unmarked. absurd (false≢true (all_marked marks c.in_ok-marks.ensures.named index false unmarked)),
      moved_long,
      -- each set has its second mark too
      record {
        quiet = λ index set at unmarked. absurd (false≢true (all_marked moved c.in_ok-marks.ensures.moved index false unmarked));
        within = marked_within marks moved (marks_long ∙ sym moved_long) c.in_ok-marks.ensures.moved;
      },
    )

-- where memory is refused, some sets have waited, and the others are as they were
pub returns-in_err-advance_each-clause-err : goal.returns-in_err-advance_each-clause-err
returns-in_err-advance_each-clause-err g c =
    let some = c.in_err-advance_each.ensures.err in
    always_err c.from_residual-in_err-advance_each.result _ (rw (← c.self.view_is) (record {
      times = refl;
      keys = c.in_err-advance_each.ensures.keys;
      records = refl;
      long = some.2.long;
      each = some_advance c.args.moment some.0 (values c.self.inside.sets) (values c.advance_each.new.sets) some.2;
    }))

-- every set has waited until the moment
pub returns-clause-ok : goal.returns-clause-ok
returns-clause-ok g c =
    -- `up` says that the marked sets have waited until the moment, and marks are the flags of all sets, each of which is set
    let up = c.in_ok-advance_each.ensures.ok in
    let sets = c.self.inside.sets in
    let marks = c.in_ok-marks.marks.moved in
    rw (← c.self.view_is) (record {
      times = refl;
      keys = c.in_ok-advance_each.ensures.keys;
      records = refl;
      long = up.long;
      -- each set is marked, and each marked set has waited
      each = all_advance c.args.moment c.moved.result.now marks (values sets) (values c.advance_each.new.sets)
          (c.in_ok-marks.ensures.long.1 ∙ c.len.ensures.len ∙ sym (length-values_of sets.entries)) c.in_ok-marks.ensures.moved c.moved.ensures.members up;
    })
