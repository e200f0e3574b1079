-- Of the invariant of Tos (`c.self.invariant`) part 0 says that the numbers of the messages rise, and 1 that each stands under its To, if sets are kept.
use Rattle.sip_machine.proofs.Words.{rules}
use Rattle.sip_machine.proofs.acks.ToLemmas.{AllPairs-picked, below, left-over}
use Rattle.sip_machine.proofs.tos.Tos.retain.Goals as goal

-- the Tos that are left are in order, and each stands under its To anew, if sets are kept
pub invariant_of-self : goal.invariant_of-self
invariant_of-self c =
    let (bs, _, _, _, left) = c.retain.ensures.filtered in
    (rw left (AllPairs-picked below bs c.self.inside.list.items c.self.invariant.0), rw c.deref.ensures.value at c.sets_of.ensures, c.self.invariant.2)

-- the Tos that are left are those of the numbers
pub returns : goal.returns
returns c = rw (← c.self.view_is) (left-over _ _ _ _ c.args.numbers.now c.retain.ensures.filtered (λ to b g called. search rules))
