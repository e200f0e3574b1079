-- Of the marks, `named` are the flags of the sets that may name a message, and `moved` those of the sets that a restart may change.
use Rattle.sip_states.proofs.due.MarksLemmas.{front_marked, front_once, narrower}
use Rattle.sip_states.proofs.marks.Marks.named.Goals as goal

-- Of the invariant of marks `c.self.invariant.0` says that the order has each index at the place that `places` gives for it (IsPlaced), and
-- `c.self.invariant.1` that no more are named than moved.

-- the first indices in the order are those that are named
pub returns-clause-members : goal.returns-clause-members
returns-clause-members c =
    let order = c.self.inside.order.items in
    let places = c.self.inside.places.items in
    let named = c.self.inside.named in
    λ index. rw (c.deref.ensures.value, ← c.self.view_is) (front_marked order places named (narrower order places c.self.inside.moved named c.self.invariant.0 c.self.invariant.1) index)

-- no index stands twice in the order
pub returns-clause-once : goal.returns-clause-once
returns-clause-once c =
    let order = c.self.inside.order.items in
    let places = c.self.inside.places.items in
    let named = c.self.inside.named in
    rw c.deref.ensures.value (front_once order places named (narrower order places c.self.inside.moved named c.self.invariant.0 c.self.invariant.1))
