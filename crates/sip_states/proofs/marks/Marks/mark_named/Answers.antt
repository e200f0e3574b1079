-- Of the marks, `named` are the flags of the sets that may name a message, and `moved` those of the sets that a restart may change.
use Rattle.std.proofs.Common.{◌≡◌, ◌<◌, ◌∙◌, ◌+◌, ap, true, get_or, arith, set, sym}
use Rattle.std.proofs.lemmas.Bool.{lt-ltb}
use Rattle.std.proofs.lemmas.List.{get_or_default}
use Rattle.sip_states.specs.inner.Marks.{IsMarked, Marked, marks}
use Rattle.sip_states.proofs.due.MarksLemmas.{exchanged, marked_beside, marked_more, marked_still, marked_under, narrower, place_low}
use Rattle.sip_states.proofs.marks.Marks.mark_named.Goals as goal

-- Of the invariant of marks `c.self.invariant.0` says that the order has each index at the place that `places` gives for it (IsPlaced), and
-- `c.self.invariant.1` that no more are named than moved.

-- the index is marked as moved, so it has a place
pub index-requires : goal.index-requires
index-requires c =
    let mark : IsMarked (marks c.self.inside.places.items c.self.inside.moved) c.args.index = rw (← c.self.view_is) at c.requires in
    let low = (marked_under c.self.inside.places.items c.self.inside.moved c.args.index mark).0 in
    omega (arith, low)

-- with one mark more the marks fit the order: the named ones stand first, and then the other moved ones
pub invariant_of-self : goal.invariant_of-self
invariant_of-self c =
    let order = c.self.inside.order.items in
    let places = c.self.inside.places.items in
    let named = c.self.inside.named in
    let moved = c.self.inside.moved in
    let is = c.self.invariant.0 in
    -- the index is moved, and its place p comes after the named ones
    let mark : IsMarked (marks places moved) c.args.index = rw (← c.self.view_is) at c.requires in
    let under = marked_under places moved c.args.index mark in
    let p = c.index.result.now in
    let at : p ≡ get_or places c.args.index 0 = c.index.ensures ∙ get_or_default places c.args.index p 0 under.0 in
    let p_low = place_low order places moved is c.args.index p under.0 at in
    let from = c.if-place-self.true in
    let less : named < moved = omega (arith, from, at, under.1) in
    rw (c.exchange.ensures.order, c.exchange.ensures.places) (exchanged order places moved is p named p_low (omega (arith, from, p_low)) moved is.few, omega (arith, less))

-- the index was not named: it changes places with the first one that is not, and it alone is named besides
pub returns-then-place-self-clause-named : goal.returns-then-place-self-clause-named
returns-then-place-self-clause-named c =
    let order = c.self.inside.order.items in
    let places = c.self.inside.places.items in
    let named = c.self.inside.named in
    let moved = c.self.inside.moved in
    -- the index is moved, and p is its place
    let mark : IsMarked (marks places moved) c.args.index = rw (← c.self.view_is) at c.requires in
    let under = marked_under places moved c.args.index mark in
    let p = c.index.result.now in
    let at : p ≡ get_or places c.args.index 0 = c.index.ensures ∙ get_or_default places c.args.index p 0 under.0 in
    ap (λ ps. marks ps (named + 1)) c.exchange.ensures.places
    ∙ marked_more order places named (narrower order places moved named c.self.invariant.0 c.self.invariant.1) c.args.index p under.0 at c.if-place-self.true
    ∙ ap (λ (m : Marked). set m.named c.args.index true) c.self.view_is

-- the two indices that change places are both moved, so the marks of the moved ones stay
pub returns-then-place-self-clause-moved : goal.returns-then-place-self-clause-moved
returns-then-place-self-clause-moved c =
    let order = c.self.inside.order.items in
    let places = c.self.inside.places.items in
    let named = c.self.inside.named in
    let moved = c.self.inside.moved in
    let is = c.self.invariant.0 in
    -- the index is moved, and its place p comes after the named ones
    let mark : IsMarked (marks places moved) c.args.index = rw (← c.self.view_is) at c.requires in
    let under = marked_under places moved c.args.index mark in
    let p = c.index.result.now in
    let at : p ≡ get_or places c.args.index 0 = c.index.ensures ∙ get_or_default places c.args.index p 0 under.0 in
    let p_low = place_low order places moved is c.args.index p under.0 at in
    let from = c.if-place-self.true in
    let less : p < moved = omega (arith, at, under.1) in
    ap (λ ps. marks ps moved) c.exchange.ensures.places
    ∙ marked_beside order places moved moved p named is p_low (omega (arith, from, p_low)) (lt-ltb p moved less ∙ sym (lt-ltb named moved (omega (arith, from, less))))
    ∙ ap (λ (m : Marked). m.moved) c.self.view_is

-- the index was named before, so the marks of the named ones stay
pub returns-else-place-self-clause-named : goal.returns-else-place-self-clause-named
returns-else-place-self-clause-named c =
    let places = c.self.inside.places.items in
    let named = c.self.inside.named in
    -- the index is marked as moved, so that it is within the list, and p is its place, among those of the named ones
    let mark : IsMarked (marks places c.self.inside.moved) c.args.index = rw (← c.self.view_is) at c.requires in
    let low = (marked_under places c.self.inside.moved c.args.index mark).0 in
    let p = c.index.result.now in
    let at : p ≡ get_or places c.args.index 0 = c.index.ensures ∙ get_or_default places c.args.index p 0 low in
    rw (← c.self.view_is) (marked_still places named c.args.index true low (lt-ltb (get_or places c.args.index 0) named (omega (arith, sym at, c.if-place-self.false))))
