-- Of the marks, `named` are the flags of the sets that may name a message, and `moved` those of the sets that a restart may change.
use Rattle.std.proofs.Common.{◌≡◌, ◌≤◌, ◌∙◌, ◌-◌, ap, false, Some, slice_get, get_or, arith, set, sym}
use Rattle.std.proofs.lemmas.Bool.{le-ltb}
use Rattle.std.proofs.lemmas.List.{get_or_default}
use Rattle.sip_states.specs.inner.Marks.{Marked, marks}
use Rattle.sip_states.proofs.due.MarksLemmas.{exchanged, marked_beside, marked_less, marked_still, place_low, unmarked_from}
use Rattle.sip_states.proofs.marks.Marks.unmark_moved.Goals as goal

-- Of the invariant of marks `c.self.invariant.0` says that the order has each index at the place that `places` gives for it (IsPlaced), and
-- `c.self.invariant.1` that no more are named than moved.

-- the index is not marked as named, so it has a place
pub index-requires : goal.index-requires
index-requires c =
    let none : slice_get (marks c.self.inside.places.items c.self.inside.named) c.args.index ≡ Some false = rw (← c.self.view_is) at c.requires in
    let low = (unmarked_from c.self.inside.places.items c.self.inside.named c.args.index none).0 in
    omega (arith, low)

-- with one mark less the marks fit the order: the named ones stand first, and then the other moved ones
pub invariant_of-self : goal.invariant_of-self
invariant_of-self c =
    let order = c.self.inside.order.items in
    let places = c.self.inside.places.items in
    let named = c.self.inside.named in
    let moved = c.self.inside.moved in
    let is = c.self.invariant.0 in
    -- the index is not named, and its place p is among the moved ones
    let none : slice_get (marks places named) c.args.index ≡ Some false = rw (← c.self.view_is) at c.requires in
    let from = unmarked_from places named c.args.index none in
    let p = c.index.result.now in
    let at : p ≡ get_or places c.args.index 0 = c.index.ensures ∙ get_or_default places c.args.index p 0 from.0 in
    let p_low = place_low order places moved is c.args.index p from.0 at in
    let few = is.few in
    let under = c.if-place-self.true in
    rw (c.exchange.ensures.order, c.exchange.ensures.places) (exchanged order places moved is p (moved - 1) p_low (omega (arith, under, few)) (moved - 1) (omega (arith, few)), omega (arith, under, at, from.1))

-- neither of the two indices that change places is named, so the marks of the named ones stay
pub returns-then-place-self-clause-named : goal.returns-then-place-self-clause-named
returns-then-place-self-clause-named c =
    let order = c.self.inside.order.items in
    let places = c.self.inside.places.items in
    let named = c.self.inside.named in
    let moved = c.self.inside.moved in
    let is = c.self.invariant.0 in
    -- the index is not named, and its place p is among the moved ones
    let none : slice_get (marks places named) c.args.index ≡ Some false = rw (← c.self.view_is) at c.requires in
    let from = unmarked_from places named c.args.index none in
    let p = c.index.result.now in
    let at : p ≡ get_or places c.args.index 0 = c.index.ensures ∙ get_or_default places c.args.index p 0 from.0 in
    let p_low = place_low order places moved is c.args.index p from.0 at in
    let few = is.few in
    let under = c.if-place-self.true in
    -- the named ones stand before p
    let high : named ≤ p = omega (arith, at, from.1) in
    ap (λ ps. marks ps named) c.exchange.ensures.places
    ∙ marked_beside order places moved named p (moved - 1) is p_low (omega (arith, under, few)) (le-ltb p named high ∙ sym (le-ltb (moved - 1) named (omega (arith, under, high))))
    ∙ ap (λ (m : Marked). m.named) c.self.view_is

-- the index was moved: it changes places with the last one that is, and it alone is moved no more
pub returns-then-place-self-clause-moved : goal.returns-then-place-self-clause-moved
returns-then-place-self-clause-moved c =
    let order = c.self.inside.order.items in
    let places = c.self.inside.places.items in
    let named = c.self.inside.named in
    let moved = c.self.inside.moved in
    -- the index is not named, and p is its place
    let none : slice_get (marks places named) c.args.index ≡ Some false = rw (← c.self.view_is) at c.requires in
    let from = unmarked_from places named c.args.index none in
    let p = c.index.result.now in
    let at : p ≡ get_or places c.args.index 0 = c.index.ensures ∙ get_or_default places c.args.index p 0 from.0 in
    ap (λ ps. marks ps (moved - 1)) c.exchange.ensures.places ∙ marked_less order places moved c.self.invariant.0 c.args.index p from.0 at c.if-place-self.true
    ∙ ap (λ (m : Marked). set m.moved c.args.index false) c.self.view_is

-- the index was not moved before, so the marks of the moved ones stay
pub returns-else-place-self-clause-moved : goal.returns-else-place-self-clause-moved
returns-else-place-self-clause-moved c =
    let places = c.self.inside.places.items in
    let moved = c.self.inside.moved in
    -- the index is not marked as named, so that it is within the list, and p is its place, past those of the moved ones
    let none : slice_get (marks places c.self.inside.named) c.args.index ≡ Some false = rw (← c.self.view_is) at c.requires in
    let low = (unmarked_from places c.self.inside.named c.args.index none).0 in
    let p = c.index.result.now in
    let at : p ≡ get_or places c.args.index 0 = c.index.ensures ∙ get_or_default places c.args.index p 0 low in
    rw (← c.self.view_is) (marked_still places moved c.args.index false low (le-ltb (get_or places c.args.index 0) moved (omega (arith, sym at, c.if-place-self.false))))
