-- Of the invariant of a book (`c.self.invariant`) part 0 says that the messages are a book, 1 that the runs hold their places, and 2 that the Tos are theirs.
use Rattle.std.proofs.Common.{◌≡◌, ◌∙◌, ◌++◌, ◌∷◌, [], true, is_some, ap, rules, subst, sym}
use Rattle.sip_machine.specs.Texts.{IsBook}
use Rattle.sip_machine.specs.inner.Order.{texts_of, StandInRuns}
use Rattle.sip_machine.specs.inner.Tos.{AreTos}
use Rattle.sip_machine.proofs.acks.ToLemmas.{AreTos-some}
use Rattle.sip_machine.proofs.texts.NewestLaws.{texts_split, kept_front}
use Rattle.sip_machine.proofs.book.Book.forget_newest.Goals as goal

-- without the To of the newest message, each To is still that of a kept message
pub invariant_of-self : goal.invariant_of-self
invariant_of-self c =
    let texts = texts_of c.self.inside.kept.items in
    (c.self.invariant.0, c.self.invariant.1, AreTos-some texts c.self.inside.tos c.drop_newest.new.self c.self.invariant.2 c.drop_newest.ensures)

-- where no message was forgotten, the book is right as before
pub invariant_of-self-in_default : goal.invariant_of-self-in_default
invariant_of-self-in_default c =
    -- the texts are as they were, and so are the runs; the Tos are among those before
    let texts = texts_of c.self.inside.kept.items in
    let tos = c.drop_newest.new.self in
    let same = sym (ap texts_of c.in_default.ensures.none) in
    let beside = AreTos-some texts c.self.inside.tos tos c.self.invariant.2 c.drop_newest.ensures in (
      subst IsBook same c.self.invariant.0,
      subst (λ ts. StandInRuns ts c.self.inside.order.items c.self.inside.loose) same c.self.invariant.1,
      subst (λ ts. AreTos ts tos) same beside,
    )

-- without the newest message, which had no place yet, the places of the others are as they were
pub invariant_of-self-in-Some : goal.invariant_of-self-in-Some
invariant_of-self-in-Some c =
    let old = c.self.inside.kept.items in
    let new = c.pop_newest.new.kept.items in
    let runs = c.self.inside.order.items in
    let tos = c.drop_newest.new.self in
    let newest = c.in-Some.newest in
    -- the newest message has no place yet, and its To is the last one
    let some : is_some c.self.inside.loose ≡ true = search rules in
    let below = c.are_below.ensures (search rules) in
    let is = texts_split old new newest c.in-Some.ensures.some.1 ∙ ap (λ n. texts_of new ++ (n, newest.bytes.items) ∷ []) c.in-Some.ensures.some.0 in
    let beside = AreTos-some (texts_of old) c.self.inside.tos tos c.self.invariant.2 c.drop_newest.ensures in
    kept_front (texts_of old) (texts_of new) runs tos c.args.number newest.bytes.items c.self.inside.loose some (c.self.invariant.0, c.self.invariant.1, beside) below is
