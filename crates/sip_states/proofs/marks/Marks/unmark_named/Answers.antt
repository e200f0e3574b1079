-- Of the marks, `named` are the flags of the sets that may name a message, and `moved` those of the sets that a restart may change.
use Rattle.std.proofs.Common.{◌≡◌, ◌<◌, ◌∙◌, ◌-◌, ap, false, length, get_or, arith, set, sym}
use Rattle.std.proofs.lemmas.Bool.{lt-ltb, le-ltb}
use Rattle.std.proofs.lemmas.List.{length-map, get_or_default}
use Rattle.sip_states.specs.inner.Marks.{Marked, marks}
use Rattle.sip_states.proofs.due.MarksLemmas.{exchanged, marked_beside, marked_less, marked_still, narrower, place_low}
use Rattle.sip_states.proofs.marks.Marks.unmark_named.Goals as goal

-- Of the invariant of marks `c.self.invariant.0` says that the order has each index at the place that `places` gives for it (IsPlaced), and
-- `c.self.invariant.1` that no more are named than moved.

-- with one mark less the marks fit the order: the named ones stand first, and then the other moved ones
pub invariant_of-self : goal.invariant_of-self
invariant_of-self c =
    let order = c.self.inside.order.items in
    let places = c.self.inside.places.items in
    let named = c.self.inside.named in
    let moved = c.self.inside.moved in
    let is = c.self.invariant.0 in
    -- p is the place of the index, which is among the named ones
    let low : c.args.index < length places = rw (← c.self.view_is, length-map) at c.requires in
    let p = c.index.result.now in
    let at : p ≡ get_or places c.args.index 0 = c.index.ensures ∙ get_or_default places c.args.index p 0 low in
    let p_low = place_low order places moved is c.args.index p low at in
    let few = is.few in
    let less = c.self.invariant.1 in
    rw (c.exchange.ensures.order, c.exchange.ensures.places) (exchanged order places moved is p (named - 1) p_low (omega (arith, c.if-place-self.true, few, less)) moved few, omega (arith, less))

-- the index was named: it changes places with the last one that is, and it alone is named no more
pub returns-then-place-self-clause-named : goal.returns-then-place-self-clause-named
returns-then-place-self-clause-named c =
    let order = c.self.inside.order.items in
    let places = c.self.inside.places.items in
    let named = c.self.inside.named in
    let moved = c.self.inside.moved in
    -- p is the place of the index
    let low : c.args.index < length places = rw (← c.self.view_is, length-map) at c.requires in
    let p = c.index.result.now in
    let at : p ≡ get_or places c.args.index 0 = c.index.ensures ∙ get_or_default places c.args.index p 0 low in
    ap (λ ps. marks ps (named - 1)) c.exchange.ensures.places
    ∙ marked_less order places named (narrower order places moved named c.self.invariant.0 c.self.invariant.1) c.args.index p low at c.if-place-self.true
    ∙ ap (λ (m : Marked). set m.named c.args.index false) c.self.view_is

-- the two indices that change places are both moved, so the marks of the moved ones stay
pub returns-then-place-self-clause-moved : goal.returns-then-place-self-clause-moved
returns-then-place-self-clause-moved c =
    let order = c.self.inside.order.items in
    let places = c.self.inside.places.items in
    let named = c.self.inside.named in
    let moved = c.self.inside.moved in
    let is = c.self.invariant.0 in
    let low : c.args.index < length places = rw (← c.self.view_is, length-map) at c.requires in
    -- p is the place of the index, which is among the named ones
    let p = c.index.result.now in
    let at : p ≡ get_or places c.args.index 0 = c.index.ensures ∙ get_or_default places c.args.index p 0 low in
    let p_low = place_low order places moved is c.args.index p low at in
    let few = is.few in
    let less = c.self.invariant.1 in
    let under = c.if-place-self.true in
    ap (λ ps. marks ps moved) c.exchange.ensures.places
    ∙ marked_beside order places moved moved p (named - 1) is p_low (omega (arith, under, few, less)) (lt-ltb p moved (omega (arith, under, less)) ∙ sym (lt-ltb (named - 1) moved (omega (arith, under, less))))
    ∙ ap (λ (m : Marked). m.moved) c.self.view_is

-- the index was not named before, so the marks of the named ones stay
pub returns-else-place-self-clause-named : goal.returns-else-place-self-clause-named
returns-else-place-self-clause-named c =
    let places = c.self.inside.places.items in
    let named = c.self.inside.named in
    let low : c.args.index < length places = rw (← c.self.view_is, length-map) at c.requires in
    -- p is the place of the index, which is not among the named ones
    let p = c.index.result.now in
    let at : p ≡ get_or places c.args.index 0 = c.index.ensures ∙ get_or_default places c.args.index p 0 low in
    rw (← c.self.view_is) (marked_still places named c.args.index false low (le-ltb (get_or places c.args.index 0) named (omega (arith, sym at, c.if-place-self.false))))
