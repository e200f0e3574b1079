-- Of the invariant of a book (`c.self.invariant`) part 0 says that the messages are a book, 1 that the runs hold their places, and 2 that the Tos are theirs.
use Rattle.std.proofs.Common.{◌∙◌, ◌++◌, ◌∷◌, [], ap, sym}
use Rattle.sip_machine.specs.declared.book.KeptMessage.{KeptMessage}
use Rattle.sip_machine.specs.declared.book.Loose.{Loose}
use Rattle.sip_machine.specs.inner.Order.{texts_of}
use Rattle.sip_machine.proofs.texts.TextLaws.{text_of-kept, Keeps-added, text_of-added}
use Rattle.sip_machine.proofs.texts.OrderLaws.{bytes_at-kept}
use Rattle.sip_machine.proofs.texts.NewestLaws.{texts_split, kept_newest}
use Rattle.sip_machine.proofs.book.Book.add.Goals as goal

-- a message that the book lacked is its newest one now: it has its gap among the places, and gets its place when the next one comes
pub invariant_of-self-in-Err : goal.invariant_of-self-in-Err
invariant_of-self-in-Err c =
    let kept = c.self.inside.kept.items in
    let runs = c.place_newest.new.runs.items in
    let message : KeptMessage = record { number = c.args.entry; bytes = c.in_ok-bytes-in-Err.bytes } in
    let newest : Loose = record { hash = c.hash-hash.result; gap = c.in-Err.gap } in
    -- the book has the message after all others, and the gap for its place
    let added = texts_split c.push.new.self.items kept message c.in_ok-push-in-Err.ensures.items ∙ ap (λ bytes. texts_of kept ++ (c.args.entry, bytes) ∷ []) c.in_ok-bytes-in-Err.ensures in
    let order = rw c.deref.ensures.value at c.in_ok-place_newest.ensures.ok.1 in
    let gap = rw (c.deref-2.ensures.value, c.deref-3.ensures.value) at c.in-Err.ensures.gap in
    let inside = rw c.deref-3.ensures.value at c.in-Err.ensures.inside in
    kept_newest (texts_of kept) (texts_of c.push.new.self.items) runs c.self.inside.tos c.args.entry c.args.bytes.now newest c.self.invariant.0 order c.self.invariant.2 (rw c.self.view_is c.requires)
    c.hash-hash.ensures gap inside added

-- where the book has the bytes, the number is that under which it has them
pub returns-in-Ok-clause-ok : goal.returns-in-Ok-clause-ok
returns-in-Ok-clause-ok c =
    let kept = c.self.inside.kept.items in
    let at = rw c.deref-2.ensures.value at c.in-Ok.ensures.found in
    let here = text_of-kept (λ k. (k.number, k.bytes.items)) kept c.in-Ok.position c.index.result.now c.self.invariant.0.rising at.0 c.index.ensures in
    (here.0, here.1 ∙ sym (bytes_at-kept kept c.in-Ok.position c.index.result.now at.0 c.index.ensures) ∙ at.1)

-- where the book lacked the bytes, it has them now under the new number
pub returns-in_ok-push-in-Err-clause-ok : goal.returns-in_ok-push-in-Err-clause-ok
returns-in_ok-push-in-Err-clause-ok c =
    let kept = c.self.inside.kept.items in
    let message : KeptMessage = record { number = c.args.entry; bytes = c.in_ok-bytes-in-Err.bytes } in
    let added = texts_split c.push.new.self.items kept message c.in_ok-push-in-Err.ensures.items ∙ ap (λ bytes. texts_of kept ++ (c.args.entry, bytes) ∷ []) c.in_ok-bytes-in-Err.ensures in
    rw (added, c.self.view_is) (Keeps-added c.args.self.now c.args.entry c.args.bytes.now, text_of-added c.args.self.now c.args.entry c.args.bytes.now c.requires)
