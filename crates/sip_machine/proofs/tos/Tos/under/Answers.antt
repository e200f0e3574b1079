-- Of the invariant of Tos (`c.self.invariant`) part 1 says that the number of each message stands under its To, if sets are kept.
use Rattle.sip_machine.proofs.acks.ToLemmas.{under-found}
use Rattle.sip_machine.proofs.tos.Tos.under.Goals as goal

-- the set that is found under the To has the numbers
pub returns : goal.returns
returns c =
    rw (← c.self.view_is, c.unwrap_or.ensures)
    (under-found c.in_ok-sets.sets.now c.self.inside.list.items c.args.to.now c.get.result _ c.self.invariant.2 c.get.ensures.value
    (rw (← c.in_ok-sets.ensures.value) at c.self.invariant.1))
