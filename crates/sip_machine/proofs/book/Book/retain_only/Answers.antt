-- Of the invariant of a book (`c.self.invariant`) part 0 says that the messages are a book, 1 that the runs hold their places, and 2 that the Tos are theirs.
use Rattle.std.proofs.Common.{◌∙◌, sym, ap, ap₂, subst, All}
use Rattle.std.specs.List.{filter_map}
use Rattle.sip_machine.specs.Texts.{IsBook, Keeps}
use Rattle.sip_machine.specs.Retained.{only}
use Rattle.sip_machine.specs.inner.Order.{texts_of, placed, places_of, IsOrder}
use Rattle.sip_machine.specs.inner.Retain.{moved}
use Rattle.sip_machine.specs.inner.Tos.{AreTos}
use Rattle.sip_machine.proofs.acks.ToLemmas.{AreTos-only}
use Rattle.sip_machine.proofs.texts.RetainLemmas.{merged_is, IsBook-only}
use Rattle.sip_machine.proofs.texts.NewestLaws.{placed_texts, stand_placed, retained_order}
use Rattle.sip_machine.proofs.book.Book.retain_only.Goals as goal

-- the messages that are kept are a book
pub loosened-self-inside-requires-clause-book : goal.loosened-self-inside-requires-clause-book
loosened-self-inside-requires-clause-book c =
    let texts = texts_of c.self.inside.kept.items in
    let numbers = c.args.numbers.now in
    let book = c.self.invariant.0 in
    let kept : All (Keeps texts) numbers = rw c.self.view_is c.requires.kept in
    let is = c.keep_only.ensures ∙ merged_is numbers texts c.requires.rising book.rising kept in
    rw c.deref-2.ensures.value (subst IsBook (sym is) (IsBook-only texts numbers book c.requires.rising kept))

-- the places of the messages that are kept stand in order, in runs that tell their first message and are short enough
pub loosened-self-inside-requires-clause-order : goal.loosened-self-inside-requires-clause-order
loosened-self-inside-requires-clause-order c =
    let texts = texts_of c.self.inside.kept.items in
    let loose = c.is_some-is_loose.result in
    let numbers = c.args.numbers.now in
    let book = c.self.invariant.0 in
    let kept : All (Keeps texts) numbers = rw c.self.view_is c.requires.kept in
    -- the messages that are kept are those with the numbers
    let is = c.keep_only.ensures ∙ merged_is numbers texts c.requires.rising book.rising kept in
    let old = places_of c.self.inside.order.items in
    let now = places_of c.move_all.new.runs.items in
    -- the places are those of the kept messages, moved
    let front = ap texts_of (c.placed-kept.ensures ∙ ap (placed loose) c.deref.ensures.value) ∙ placed_texts loose c.self.inside.kept.items in
    let places = c.move_all.ensures.places ∙ ap₂ (λ ts ns. filter_map (moved ts ns) old) front c.placed.ensures in
    let stand = stand_placed texts c.self.inside.order.items c.self.inside.loose c.self.invariant.1 in
    let before = subst (λ b. IsOrder (placed b texts) old) (sym c.is_some-is_loose.ensures) stand.order in
    -- the places that are left are in order, since the old ones were
    let order = retained_order loose texts numbers book c.requires.rising kept old before in
    rw (c.deref-2.ensures.value, c.deref-3.ensures.value) (record {
      order = subst (λ ts. IsOrder (placed loose ts) now) (sym is) (subst (IsOrder (placed loose (only numbers texts))) (sym places) order);
      led = c.move_all.ensures.led;
      short = c.move_all.ensures.short;
    })

-- the messages that are kept, their places and their Tos fit each other
pub invariant_of-self : goal.invariant_of-self
invariant_of-self c =
    let texts = texts_of c.self.inside.kept.items in
    let numbers = c.args.numbers.now in
    let book = c.self.invariant.0 in
    let kept : All (Keeps texts) numbers = rw c.self.view_is c.requires.kept in
    -- the messages that are left are a book, in the order of the places, and the Tos are theirs
    let is = c.keep_only.ensures ∙ merged_is numbers texts c.requires.rising book.rising kept in (
      subst IsBook (sym is) (IsBook-only texts numbers book c.requires.rising kept),
      rw (c.deref-2.ensures.value, c.deref-3.ensures.value) at c.loosened-self-inside.ensures,
      subst (λ ts. AreTos ts c.retain.new.self) (sym is) (AreTos-only texts numbers book c.requires.rising kept c.self.inside.tos c.retain.new.self c.self.invariant.2 c.retain.ensures),
    )

-- the messages that are kept are those with the numbers
pub returns : goal.returns
returns c =
    let texts = texts_of c.self.inside.kept.items in
    let numbers = c.args.numbers.now in
    let kept : All (Keeps texts) numbers = rw c.self.view_is c.requires.kept in
    c.keep_only.ensures ∙ merged_is numbers texts c.requires.rising c.self.invariant.0.rising kept ∙ ap (only numbers) c.self.view_is
