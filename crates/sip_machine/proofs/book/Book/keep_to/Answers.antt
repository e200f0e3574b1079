-- Of the invariant of a book (`c.self.invariant`) part 0 says that the messages are a book, 1 that the runs hold their places, and 2 that the Tos are theirs.
use Rattle.std.proofs.Common.{◌∙◌, sym, subst}
use Rattle.sip_message.specs.Reads.{Reads}
use Rattle.sip_machine.specs.Texts.{Keeps, text_of}
use Rattle.sip_machine.specs.inner.Order.{texts_of}
use Rattle.sip_machine.proofs.book.Book.keep_to.Goals as goal

-- the To that was put there is that of a kept message
pub invariant_of-self : goal.invariant_of-self
invariant_of-self c =
    let texts = texts_of c.self.inside.kept.items in
    let same = sym (c.self.view_is ∙ c.keep_wanted_tos.ensures) in
    let kept = subst (λ ts. Keeps ts c.args.number) same c.requires.kept in
    let read = subst (λ ts. Reads (text_of ts c.args.number) c.args.message.now) same c.requires.read in
    (c.self.invariant.0, c.self.invariant.1, c.put_to.ensures texts kept read c.self.invariant.2)
