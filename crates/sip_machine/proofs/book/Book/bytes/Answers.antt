-- Of the invariant of a book (`c.self.invariant`) part 0 says that the messages are a book, 1 that the runs hold their places, and 2 that the Tos are theirs.
use Rattle.std.proofs.Common.{◌≢◌, ◌∙◌, sym, map, rules}
use Rattle.std.specs.declared.cmp.Ordering.TheVariants.{Equal}
use Rattle.std.proofs.lemmas.Cmp.{ranked}
use Rattle.std.proofs.lemmas.List.Elements.{All-map}
use Rattle.std.proofs.lemmas.List.Sorted.{answers_always}
use Rattle.sip_machine.proofs.texts.TextLaws.{text_of-kept, Keeps-none}
use Rattle.sip_machine.proofs.texts.OrderLaws.{numbers_searchable, no_number}
use Rattle.sip_machine.proofs.book.Book.bytes.Goals as goal

-- the binary search has found the message with this number
pub returns-in-Ok : goal.returns-in-Ok
returns-in-Ok c =
    -- each call of the closure gives the number of the message that it is asked of (`answers_always`)
    let at = c.in-Ok.ensures.position (λ k. k.number) (answers_always _ _ _ (λ f a r g called. search rules)) in
    -- the message that was found has the number that was asked for, since the two compare as `Equal` (`ranked`); so its bytes are those of this number
    let same = ranked c.index.result.now.number c.args.number Equal (sym (rw (c.deref.ensures.value, ← c.index.ensures) at (at c.index.result.now))) in
    let found = text_of-kept (λ k. (k.number, k.bytes.items)) c.self.inside.kept.items c.in-Ok.position c.index.result.now c.self.invariant.0.rising
    (rw c.deref.ensures.value at c.in-Ok.ensures.bound) c.index.ensures in
    let here = rw same at found in
    rw (← c.self.view_is) (here.0, c.as_slice.ensures.value ∙ sym here.1)

-- where the binary search finds nothing, no message has this number
pub returns-in-Err : goal.returns-in-Err
returns-in-Err c =
    -- the numbers of the kept messages rise, so a search by halves that finds nothing says that none is the number
    let number = c.args.number in
    let kept = c.self.inside.kept.items in
    let parted = (rw c.deref.ensures.value at (c.in-Err.ensures.position (λ k. k.number) (answers_always _ _ _ (λ f a r g called. search rules))))
    (numbers_searchable kept number c.self.invariant.0.rising) in
    let none = no_number kept number c.in-Err.field-0 parted in
    rw (← c.self.view_is) (Keeps-none (map (λ k. (k.number, k.bytes.items)) kept) number (All-map (λ kept. kept.0 ≢ number) (λ k. (k.number, k.bytes.items)) kept none))
