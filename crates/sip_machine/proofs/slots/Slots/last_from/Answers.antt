-- At each turn of the loop (`c.loop-next.invariant`) part 0 says that `next` is not past the prints, and 1 that no print passed so far is the one looked for.
use Rattle.std.proofs.Common.{◌-◌, ◌<◌, arith, length}
use Rattle.sip_machine.proofs.pools.SlotsLemmas.{pair-at, reached-more}
use Rattle.sip_machine.proofs.slots.Slots.last_from.Goals as goal

-- no print between this one and the older one of its slot is equal to the one that is looked for
pub loop-next-preserved : goal.loop-next-preserved
loop-next-preserved c =
    let s = c.args.self.now in
    let at = c.loop-next.next - 1 in
    let some = c.loop-next-test.true in
    -- the print that is looked at leads to an older one of its slot
    let low : at < length s.prints = omega (arith, some, c.loop-next.invariant.0) in
    let (print, older) = pair-at _ _ s at c.index-kept.result.now c.self.invariant c.self.view_is low c.index-kept.ensures in
    let within = older.within in (
      omega (arith, within, low),
      -- no print between the two is equal to it
      λ limit low_limit is.
          reached-more _ _ c.args.print limit c.loop-next.next at _ _ (c.loop-next.invariant.1 limit low_limit is) (omega (arith, some)) print older c.if-kept-print.false,
    )

-- at the end of the loop no print before the limit is equal to the one that is looked for
pub returns : goal.returns
returns c = λ limit low is.
    let reached = c.loop-next.invariant.1 limit low is in
    λ k k_low. reached.none k (omega (arith, c.loop-next-test.false)) k_low
