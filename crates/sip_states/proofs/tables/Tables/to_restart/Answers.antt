-- Of the marks, `named` are the flags of the sets that may name a message, and `moved` those of the sets that a restart may change.
use Rattle.std.proofs.Common.{◌+◌, ◌∙◌, map, sym, ap, subst, arith}
use Rattle.std.proofs.lemmas.List.{take_all}
use Rattle.std.proofs.lemmas.Map.Entries.{length-values_of, length-keys_of}
use Rattle.indexmap.specs.IndexMap.{keys, values}
use Rattle.sip_states.specs.Tables.{Tabled}
use Rattle.sip_states.specs.Restarting.{AreToRestart}
use Rattle.sip_states.proofs.due.AdvanceLemmas.{restart_numbers}
use Rattle.sip_states.proofs.tables.Tables.to_restart.Goals as goal

-- Of the invariant of the tables (`c.self.invariant`) part 0 says that the keys are few, 1 that the agenda is as long as the keys, 2 and 4 that the marks
-- `named` and `moved` are, 3 that the first are right (AreMarked), and 5 that the second are (AreMoved). A new invariant has its parts in this order.

-- the numbers are those of the sets that have their second mark; all others are quiet, so that a restart changes none of them
pub returns : goal.returns
returns g c =
    let sets = c.self.inside.sets in
    let items = c.moved-index-items.result.now in
    let all = take_all c.loop-index.index-index items (omega arith) in
    let numbers = c.loop-index.invariant ∙ ap (map (λ index. index + 1)) all in
    -- the indices with the second mark stand once in the order, and the other sets are quiet
    let inv = c.self.invariant in
    let t : Tabled = record { times = c.self.inside.params; keys = keys sets; sets = values sets; records = c.self.inside.agenda } in
    subst (λ u. AreToRestart u c.loop-index.numbers.items) c.self.view_is
    (restart_numbers t c.self.inside.marks.moved items c.loop-index.numbers.items numbers (inv.4 ∙ sym (length-keys_of sets.entries)) (length-values_of sets.entries ∙ sym (length-keys_of sets.entries))
    inv.5.quiet c.moved-index-items.ensures.members c.moved-index-items.ensures.once)
