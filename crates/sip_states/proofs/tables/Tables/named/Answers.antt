-- Of the marks, `named` are the flags of the sets that may name a message, and `moved` those of the sets that a restart may change.
use Rattle.std.proofs.Common.{◌≡◌, ◌↔◌, ◌<◌, ◌∙◌, ℕ, [], Some, Contains, sym, ap, subst, true, arith, length, get_or, slice_get}
use Rattle.std.specs.List.{flat_map}
use Rattle.std.proofs.lemmas.List.{take_all}
use Rattle.std.proofs.lemmas.Option.{slice_get_within}
use Rattle.std.proofs.lemmas.Map.Entries.{length-values_of}
use Rattle.indexmap.specs.IndexMap.{values}
use Rattle.sip_machine.specs.Naming.{AppendsAll}
use Rattle.sip_states.specs.Sweep.{numbers_of}
use Rattle.sip_states.specs.Tables.{Tabled}
use Rattle.sip_states.specs.inner.Marks.{IsMarked}
use Rattle.sip_states.proofs.keyed.NamesLemmas.{appends_more}
use Rattle.sip_states.proofs.keyed.ByMachine.{numbers_appended}
use Rattle.sip_states.proofs.due.AdvanceLemmas.{place_among, numbers_at, numbers_at-is, marked_names, named_if}
use Rattle.sip_states.proofs.tables.Tables.named.Goals as goal

-- Of the invariant of the tables (`c.self.invariant`) part 0 says that the keys are few, 1 that the agenda is as long as the keys, 2 and 4 that the marks
-- `named` and `moved` are, 3 that the first are right (AreMarked), and 5 that the second are (AreMoved). A new invariant has its parts in this order.

-- an index that is marked is one of the sets
pub index-requires : goal.index-requires
index-requires g c =
    let marks = c.self.inside.marks.named in
    let items = c.named-index-items.result.now in
    let index = get_or items c.loop-index.index-index 0 in
    let mark : IsMarked marks index = (c.named-index-items.ensures.members index).0 (place_among items c.loop-index.index-index 0 (omega arith)) in
    let within = slice_get_within marks index true mark in
    omega (arith, within, c.self.invariant.2)

-- after one set more, the numbers found are those of the sets up to it
pub loop-index-preserved : goal.loop-index-preserved
loop-index-preserved g c =
    let t = c.args.self.now in
    let i = c.loop-index.index-index in
    let items = c.named-index-items.result.now in
    let index = get_or items i 0 in
    -- the numbers of the next marked set are appended
    let low : i < length items = omega arith in
    let at : slice_get t.sets index ≡ Some c.index.result.now = ap (λ (u : Tabled). slice_get u.sets index) (sym c.self.view_is) ∙ c.index.ensures in
    appends_more (numbers_at t.sets) items i 0 [] c.loop-index.found.items c.names.new.out.items low c.loop-index.invariant
    (subst (λ ns. AppendsAll ns c.loop-index.found.items c.names.new.out.items) (sym (numbers_at-is t.sets index c.index.result.now at))
    (numbers_appended c.index.result.now c.loop-index.found.items c.names.new.out.items c.in_ok-names.ensures))

-- the numbers of the marked sets are the numbers of all sets, since the others name none
pub returns-clause-ok : goal.returns-clause-ok
returns-clause-ok g c =
    let t = c.args.self.now in
    let sets = c.self.inside.sets in
    let items = c.named-index-items.result.now in
    let all = take_all c.loop-index.index-index items (omega arith) in
    let found = subst (λ indices. AppendsAll (flat_map (numbers_at t.sets) indices) [] c.loop-index.found.items) all c.loop-index.invariant in
    -- the marked sets name the same as all sets
    let named : (n : ℕ) → Contains (flat_map (numbers_at t.sets) items) n ↔ Contains (flat_map numbers_of t.sets) n
    = subst (λ (u : Tabled). (n : ℕ) → Contains (flat_map (numbers_at u.sets) items) n ↔ Contains (flat_map numbers_of u.sets) n) c.self.view_is
    (marked_names items c.self.inside.marks.named (values sets) (c.self.invariant.2 ∙ sym (length-values_of sets.entries)) c.self.invariant.3 c.named-index-items.ensures.members) in
    named_if c.extend_from_slice.result t c.args.out.now.items c.extend_from_slice.new.self.items c.keep_ascending.new.numbers.items (rw c.deref.ensures.value at c.extend_from_slice.ensures.items) c.keep_ascending.ensures.rising
    (λ n. let kept = rw found.1 at (c.keep_ascending.ensures.members n) in (λ h. (named n).0 ((found.2 n).0 (kept.0 h)), λ h. kept.1 ((found.2 n).1 ((named n).1 h))))
