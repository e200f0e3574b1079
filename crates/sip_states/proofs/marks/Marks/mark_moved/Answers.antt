-- Of the marks, `named` are the flags of the sets that may name a message, and `moved` those of the sets that a restart may change.
use Rattle.std.proofs.Common.{◌≡◌, ◌<◌, ◌∙◌, ◌+◌, ap, true, length, get_or, arith, set, sym}
use Rattle.std.proofs.lemmas.Bool.{lt-ltb, le-ltb}
use Rattle.std.proofs.lemmas.List.{length-map, get_or_default}
use Rattle.sip_states.specs.inner.Marks.{Marked, marks}
use Rattle.sip_states.proofs.due.MarksLemmas.{exchanged, marked_beside, marked_more, marked_still, place_low}
use Rattle.sip_states.proofs.marks.Marks.mark_moved.Goals as goal

-- Of the invariant of marks `c.self.invariant.0` says that the order has each index at the place that `places` gives for it (IsPlaced), and
-- `c.self.invariant.1` that no more are named than moved.

-- with one mark more the marks fit the order: the named ones stand first, and then the other moved ones
pub invariant_of-self : goal.invariant_of-self
invariant_of-self c =
    let order = c.self.inside.order.items in
    let places = c.self.inside.places.items in
    let moved = c.self.inside.moved in
    let is = c.self.invariant.0 in
    let low : c.args.index < length places = rw (← c.self.view_is, length-map) at c.requires in
    -- p is the place of the index, which is not among the moved ones
    let p = c.index.result.now in
    let at : p ≡ get_or places c.args.index 0 = c.index.ensures ∙ get_or_default places c.args.index p 0 low in
    let p_low = place_low order places moved is c.args.index p low at in
    let from = c.if-place-self.true in
    rw (c.exchange.ensures.order, c.exchange.ensures.places) (exchanged order places moved is p moved p_low (omega (arith, from, p_low)) (moved + 1) (omega (arith, from, p_low)), omega (arith, c.self.invariant.1))

-- neither of the two indices that change places is named, so the marks of the named ones stay
pub returns-then-place-self-clause-named : goal.returns-then-place-self-clause-named
returns-then-place-self-clause-named c =
    let order = c.self.inside.order.items in
    let places = c.self.inside.places.items in
    let named = c.self.inside.named in
    let moved = c.self.inside.moved in
    let is = c.self.invariant.0 in
    let low : c.args.index < length places = rw (← c.self.view_is, length-map) at c.requires in
    -- p is the place of the index, which is not among the moved ones
    let p = c.index.result.now in
    let at : p ≡ get_or places c.args.index 0 = c.index.ensures ∙ get_or_default places c.args.index p 0 low in
    let p_low = place_low order places moved is c.args.index p low at in
    let from = c.if-place-self.true in
    let few = c.self.invariant.1 in
    ap (λ ps. marks ps named) c.exchange.ensures.places
    ∙ marked_beside order places moved named p moved is p_low (omega (arith, from, p_low)) (le-ltb p named (omega (arith, from, few)) ∙ sym (le-ltb moved named few))
    ∙ ap (λ (m : Marked). m.named) c.self.view_is

-- the index was not moved: it changes places with the first one that is not, and it alone is moved besides
pub returns-then-place-self-clause-moved : goal.returns-then-place-self-clause-moved
returns-then-place-self-clause-moved c =
    -- `order` has the indices, `places` the place of each, and `moved` is how many are marked; p is the place of this one, past the marked ones
    let order = c.self.inside.order.items in
    let places = c.self.inside.places.items in
    let moved = c.self.inside.moved in
    let low : c.args.index < length places = rw (← c.self.view_is, length-map) at c.requires in
    let p = c.index.result.now in
    let at : p ≡ get_or places c.args.index 0 = c.index.ensures ∙ get_or_default places c.args.index p 0 low in
    -- after the exchange the first moved + 1 indices are the marked ones
    ap (λ ps. marks ps (moved + 1)) c.exchange.ensures.places ∙ marked_more order places moved c.self.invariant.0 c.args.index p low at c.if-place-self.true
    ∙ ap (λ (m : Marked). set m.moved c.args.index true) c.self.view_is

-- the index was moved before, so the marks of the moved ones stay
pub returns-else-place-self-clause-moved : goal.returns-else-place-self-clause-moved
returns-else-place-self-clause-moved c =
    let places = c.self.inside.places.items in
    let moved = c.self.inside.moved in
    let low : c.args.index < length places = rw (← c.self.view_is, length-map) at c.requires in
    -- p is the place of the index, which is among the moved ones
    let p = c.index.result.now in
    let at : p ≡ get_or places c.args.index 0 = c.index.ensures ∙ get_or_default places c.args.index p 0 low in
    rw (← c.self.view_is) (marked_still places moved c.args.index true low (lt-ltb (get_or places c.args.index 0) moved (omega (arith, sym at, c.if-place-self.false))))
