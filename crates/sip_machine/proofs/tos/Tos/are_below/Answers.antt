-- Of the invariant of Tos (`c.self.invariant`) part 0 says that the numbers of the messages rise, and 1 that each stands under its To, if sets are kept.
use Rattle.sip_machine.proofs.acks.ToLemmas.{below_last}
use Rattle.sip_machine.proofs.tos.Tos.are_below.Goals as goal

-- the last number is the greatest, so all are below where it is
pub returns-in-Some : goal.returns-in-Some
returns-in-Some c lt =
    let is = rw (c.in-Some.is, c.deref.ensures.value) at c.last.ensures.value in
    rw (← c.self.view_is) (below_last c.self.inside.list.items c.args.number c.in-Some.last.now c.self.invariant.0 is lt)
