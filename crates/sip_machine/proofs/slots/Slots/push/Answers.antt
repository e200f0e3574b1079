use Rattle.std.proofs.Common.{◌≡◌, ◌<◌, ◌+◌, ◌++◌, ◌∷◌, [], ◌∙◌, ap, arith, get_or, length, sym}
use Rattle.std.proofs.lemmas.List.{get_or_default, length-map, length_push, map-append}
use Rattle.sip_machine.specs.declared.slots.SlotPrint.{SlotPrint}
use Rattle.sip_machine.specs.inner.Slots.{slot_of, slotted}
use Rattle.sip_machine.proofs.pools.SlotsLemmas.{slots-grow}
use Rattle.sip_machine.proofs.slots.Slots.push.Goals as goal

-- the new print is the newest of its slot, and leads to the one that was the newest
pub invariant_of-self-2 : goal.invariant_of-self-2
invariant_of-self-2 c =
    let inside = c.self.inside in
    let all = inside.newest.items in
    let kept = inside.kept.items in
    let slot = c.slot_of-slot.result in
    let x : SlotPrint = record { print = c.args.print; older = c.index-older.result.now } in
    -- the slot is that of the print
    let low : slot < length all = omega (arith, c.len.ensures, inside.newest.ok.0) in
    let is : slot ≡ slot_of (length all) c.args.print = c.slot_of-slot.ensures.is ∙ ap (λ n. slot_of n c.args.print) (c.len.ensures ∙ inside.newest.ok.0) in
    let pushed : c.push.new.self.items ≡ kept ++ x ∷ [] = c.in_ok-push.ensures.items in
    let count : c.len-2.result ≡ length kept + 1 = c.len-2.ensures ∙ c.push.new.self.ok.0 ∙ ap length pushed ∙ length_push kept x in
    -- the pair leads to the print that was the newest of the slot
    let older : c.index-older.result.now ≡ get_or all slot 0 = c.index-older.ensures ∙ sym (get_or_default all slot 0 c.index-older.result.now low) in
    rw (pushed, map-append (λ y. y.print) kept (x ∷ []), map-append (λ y. y.older) kept (x ∷ []), older)
    (slots-grow (slotted all kept) c.args.print slot c.len-2.result c.self.invariant is low (count ∙ ap (λ n. n + 1) (sym (length-map kept (λ y. y.print)))))
