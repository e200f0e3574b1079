-- Of the marks, `named` are the flags of the sets that may name a message, and `moved` those of the sets that a restart may change.
use Rattle.std.proofs.Common.{◌≡◌, ◌≤◌, ◌∙◌, [], inl, refl, sym, subst, get_or, true, arith}
use Rattle.std.proofs.lemmas.Option.{slice_get_within}
use Rattle.std.proofs.lemmas.Map.Entries.{length-values_of}
use Rattle.indexmap.specs.IndexMap.{values}
use Rattle.sip_states.specs.AnySet.{IsQuietSet}
use Rattle.sip_states.specs.Sweep.{numbers_of}
use Rattle.sip_states.specs.Tables.{most_keys}
use Rattle.sip_states.specs.inner.Marks.{IsMarked}
use Rattle.sip_states.proofs.due.AdvanceLemmas.{place_among, marked_advance, some_advance, marked_still, always_ok, always_err}
use Rattle.sip_states.proofs.tables.Tables.advance_all.Goals as goal

-- Of the invariant of the tables (`c.self.invariant`) part 0 says that the keys are few, 1 that the agenda is as long as the keys, 2 and 4 that the marks
-- `named` and `moved` are, 3 that the first are right (AreMarked), and 5 that the second are (AreMoved). A new invariant has its parts in this order.

-- each marked index is one of the sets
pub advance_each-requires-clause-inside : goal.advance_each-requires-clause-inside
advance_each-requires-clause-inside g c =
    λ k d low.
    let marks = c.self.inside.marks.named in
    let index = get_or c.named.result.now k d in
    let mark : IsMarked marks index = (c.named.ensures.members index).0 (place_among c.named.result.now k d low) in
    let within = slice_get_within marks index true mark in
    omega (arith, within, c.self.invariant.2)

-- where memory is refused the tables keep their invariant: they have as many sets, and the marks are right for those that have waited and for the others
pub invariant_of-self : goal.invariant_of-self
invariant_of-self g c =
    let inv = c.self.invariant in
    let size = c.in_err-advance_each.ensures.size in
    let some = c.in_err-advance_each.ensures.err in (
      subst (λ n. n ≤ most_keys) (sym size) inv.0,
      inv.1 ∙ sym size,
      inv.2 ∙ sym size,
      marked_still (λ s. numbers_of s ≡ []) c.args.moment some.0 c.self.inside.marks.named (values c.self.inside.sets) (values c.advance_each.new.sets) inv.3 (λ n has. (c.named.ensures.members n).0 (some.1 n has)) some.2,
      inv.4 ∙ sym size,
      -- the sets without the second mark are still quiet
      record {
        quiet = marked_still IsQuietSet c.args.moment some.0 c.self.inside.marks.moved (values c.self.inside.sets) (values c.advance_each.new.sets) inv.5.quiet
            (λ n has. inv.5.within n ((c.named.ensures.members n).0 (some.1 n has))) some.2;
        within = inv.5.within;
      },
    )

-- the marks are right for the sets after the sweep
pub invariant_of-self-2 : goal.invariant_of-self-2
invariant_of-self-2 g c =
    -- `inv` is the invariant of the tables before; the sets are as many as before (`size`), and each has waited (`up`)
    let inv = c.self.invariant in
    let size = c.in_ok-advance_each.ensures.size in
    let up = c.in_ok-advance_each.ensures.ok in (
      rw c.unmark_silent.ensures.same (subst (λ n. n ≤ most_keys) (sym size) inv.0),
      rw c.unmark_silent.ensures.same (inv.1 ∙ sym size),
      rw c.unmark_silent.ensures.same (c.unmark_silent.ensures.long ∙ inv.2 ∙ sym size),
      rw c.unmark_silent.ensures.same c.unmark_silent.ensures.marked,
      rw (c.unmark_silent.ensures.same, c.unmark_silent.ensures.moved) (inv.4 ∙ sym size),
      -- the sets without the second mark are still quiet
      rw (c.unmark_silent.ensures.same, c.unmark_silent.ensures.moved) (record {
        quiet = marked_still IsQuietSet c.args.moment c.named.result.now c.self.inside.marks.moved (values c.self.inside.sets) (values c.advance_each.new.sets) inv.5.quiet
            (λ n has. inv.5.within n ((c.named.ensures.members n).0 has)) up;
        within = λ n mark. inv.5.within n (c.unmark_silent.ensures.fewer n mark);
      }),
    )

-- where memory is refused, some marked sets have waited, and the others are as they were
pub returns-in_err-advance_each-clause-err : goal.returns-in_err-advance_each-clause-err
returns-in_err-advance_each-clause-err g c =
    let some = c.in_err-advance_each.ensures.err in
    always_err c.from_residual.result _ (rw (← c.self.view_is) (record {
      times = refl;
      keys = c.in_err-advance_each.ensures.keys;
      records = refl;
      long = some.2.long;
      each = some_advance c.args.moment some.0 (values c.self.inside.sets) (values c.advance_each.new.sets) some.2;
    }))

-- the sets without a mark name nothing, also after the wait
pub unmark_silent-requires-clause-marked : goal.unmark_silent-requires-clause-marked
unmark_silent-requires-clause-marked g c =
    marked_still (λ s. numbers_of s ≡ []) c.args.moment c.named.result.now c.self.inside.marks.named (values c.self.inside.sets) (values c.advance_each.new.sets) c.self.invariant.3 (λ n has. (c.named.ensures.members n).0 has) c.in_ok-advance_each.ensures.ok

-- each set has waited, if it was marked as named; else it names no message and is as before
pub returns-clause-ok : goal.returns-clause-ok
returns-clause-ok g c =
    let up = c.in_ok-advance_each.ensures.ok in
    let sets = c.self.inside.sets in
    always_ok c.unmark_silent.result _ (rw (c.unmark_silent.ensures.same, ← c.self.view_is) (record {
      times = refl;
      keys = c.in_ok-advance_each.ensures.keys;
      records = refl;
      long = up.long;
      -- a marked set has waited, and another one names no message and is as before
      each = marked_advance c.args.moment c.named.result.now c.self.inside.marks.named (values sets) (values c.advance_each.new.sets)
          (c.self.invariant.2 ∙ sym (length-values_of sets.entries)) c.self.invariant.3 c.named.ensures.members up;
    }))

-- where memory is refused, each set has waited or is as it was
pub returns-clause-err : goal.returns-clause-err
returns-clause-err g c =
    let up = c.in_ok-advance_each.ensures.ok in
    let sets = c.self.inside.sets in
    always_err c.unmark_silent.result _ (rw (c.unmark_silent.ensures.same, ← c.self.view_is) (record {
      times = refl;
      keys = c.in_ok-advance_each.ensures.keys;
      records = refl;
      long = up.long;
      -- a marked set has waited, and another one names no message and is as before
      each = λ n a b was is. inl (marked_advance c.args.moment c.named.result.now c.self.inside.marks.named (values sets) (values c.advance_each.new.sets)
          (c.self.invariant.2 ∙ sym (length-values_of sets.entries)) c.self.invariant.3 c.named.ensures.members up n a b was is);
    }))
