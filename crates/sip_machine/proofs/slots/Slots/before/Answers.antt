use Rattle.std.proofs.Common.{arith}
use Rattle.sip_machine.proofs.pools.SlotsLemmas.{pair-at}
use Rattle.sip_machine.proofs.slots.Slots.before.Goals as goal

-- the last print of the slot before this one stands among the prints
pub last_from-requires : goal.last_from-requires
last_from-requires c =
    let older = (pair-at _ _ _ c.args.at c.index-kept.result.now c.self.invariant c.self.view_is c.requires c.index-kept.ensures).1.within in
    omega (arith, older, c.requires)

-- the newest print of the slot before this one that is equal to it is the last such print of all
pub returns : goal.returns
returns c =
    let (print, older) = pair-at _ _ _ c.args.at c.index-kept.result.now c.self.invariant c.self.view_is c.requires c.index-kept.ensures in
    rw print (c.last_from.ensures c.args.at (omega (arith, c.requires)) older)
