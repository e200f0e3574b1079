-- Of the marks, `named` are the flags of the sets that may name a message, and `moved` those of the sets that a restart may change.
use Rattle.std.proofs.Common.{◌≡◌, ◌≤◌, ◌<◌, ◌∙◌, ℕ, true, false, Some, length, slice_get, sym, ap, arith}
use Rattle.std.proofs.lemmas.Bool.{false≢true}
use Rattle.std.proofs.lemmas.Option.{slice_get_within, slice_get-get_or}
use Rattle.std.specs.Map.{keys_of, values_of}
use Rattle.indexmap.specs.IndexMap.{index_map_len}
use Rattle.sip_states.specs.Kept.{kept_of}
use Rattle.sip_states.specs.inner.Marks.{IsMarked}
use Rattle.sip_states.proofs.lists.Kept.{all_marked, kept_few, kept_keys, kept_long, kept_values}
use Rattle.sip_states.proofs.tables.Tables.keep.Goals as goal

-- Of the invariant of the tables (`c.self.invariant`) part 0 says that the keys are few, 1 that the agenda is as long as the keys, 2 and 4 that the marks
-- `named` and `moved` are, 3 that the first are right (AreMarked), and 5 that the second are (AreMoved). A new invariant has its parts in this order.

-- the agenda keeps at most as many places as flags are true
pub all-requires : goal.all-requires
all-requires g c =
    let few = kept_few c.args.flags.now c.self.inside.agenda in
    let is = c.len.ensures ∙ ap length c.in_ok-agenda.ensures in
    omega (arith, few, is, c.self.invariant.1, c.self.invariant.0)

-- all marks of what is kept are set, so they are right whatever the sets are, and all lists are of one length
pub invariant_of-self : goal.invariant_of-self
invariant_of-self g c =
    let flags = c.args.flags.now in
    let es = c.self.inside.sets.entries in
    let marks = c.in_ok-marks.marks.named in
    let moved = c.in_ok-marks.marks.moved in
    -- as many sets, records and marks are left as flags are true
    let size : index_map_len c.keep_entries.new.map ≡ length (kept_of flags es) = ap length c.keep_entries.ensures in
    let few = kept_few flags es in
    let long : length c.in_ok-agenda.agenda ≡ index_map_len c.keep_entries.new.map =
    ap length c.in_ok-agenda.ensures ∙ kept_long flags c.self.inside.agenda es c.self.invariant.1 ∙ sym size in
    let marks_long = c.in_ok-marks.ensures.long.0 ∙ c.len.ensures ∙ long in
    let moved_long = c.in_ok-marks.ensures.long.1 ∙ c.len.ensures ∙ long in (
      omega (arith, size, few, c.self.invariant.0),
      long,
      marks_long,
      -- each index has both marks
      λ index set at unmarked. absurd (false≢true (all_marked marks c.in_ok-marks.ensures.named index false unmarked)),
      moved_long,
      record {
        quiet = λ index set at unmarked. absurd (false≢true (all_marked moved c.in_ok-marks.ensures.moved index false unmarked));
        within = λ index marked.
            let low : index < length moved = (let inside = slice_get_within marks index true marked in omega (arith, inside, marks_long, moved_long)) in
            slice_get-get_or moved index true low ∙ ap Some (c.in_ok-marks.ensures.moved index true low);
      },
    )

-- the keys, the sets and the records are those whose flag is set, in their order
pub returns-clause-ok : goal.returns-clause-ok
returns-clause-ok g c =
    -- es are the entries, each a key and its set, and flags those that are kept
    let flags = c.args.flags.now in
    let es = c.self.inside.sets.entries in
    rw (← c.self.view_is) (λ i. record {
      times = c.self.inside.params;
      keys = (ap keys_of c.keep_entries.ensures ∙ kept_keys flags es) i;
      sets = (ap values_of c.keep_entries.ensures ∙ kept_values flags es) i;
      records = c.in_ok-agenda.ensures i;
    })
