-- Of the invariant of a book (`c.self.invariant`) part 0 says that the messages are a book, 1 that the runs hold their places, and 2 that the Tos are theirs.
use Rattle.std.proofs.Common.{sym, ◌∙◌}
use Rattle.std.proofs.lemmas.Option.{IfSome_then}
use Rattle.sip_machine.specs.inner.Order.{texts_of}
use Rattle.sip_machine.proofs.acks.ToLemmas.{has-those}
use Rattle.sip_machine.proofs.book.Book.under.Goals as goal

-- each message between the two numbers has its To here, since there are as many of both
pub returns : goal.returns
returns c =
    let texts = texts_of c.self.inside.kept.items in
    rw (← c.self.view_is) (IfSome_then c.under.result c.under.ensures (λ set.
    has-those texts c.self.inside.tos c.args.low c.args.high c.self.invariant.0 c.self.invariant.2 c.between.ensures.rising
    (sym (rw c.deref.ensures.value at c.kept_between.ensures) ∙ c.if-kept_between-between.false ∙ c.between.ensures.count) c.args.to.now set.now))
