use Rattle.std.proofs.Common.{◌+◌, ◌∙◌, arith, rules}
use Rattle.sip_states.proofs.lists.Kept.{keeps_done, step_not, step_swap}
use Rattle.sip_states.proofs.keeping.keep_each.Goals.{then-flags-at, else-flags-at}
use Rattle.sip_states.proofs.keeping.keep_each.Goals as goal

-- of the items up to here, those whose flag is set stand at the front, in their order
pub loop-at-preserved : goal.loop-at-preserved
loop-at-preserved g c =
    let flags = c.args.flags.now in
    let xs = c.args.items.now.items in
    let ys = c.loop-at.items.items in
    let long = c.loop-at.invariant.long in
    elim c.if-flags-at.branch [
      -- an item whose flag is set moves to the front, and any other is passed over
      | then-flags-at w ↦
          rw (w.items-is, w.count-is, w.swap.ensures.items)
          (step_swap flags xs ys c.loop-at.count c.loop-at.at c.loop-at.invariant (omega arith) (omega (arith, long)) (search rules))
      | else-flags-at w ↦
          rw (w.items-is, w.count-is) (step_not flags xs ys c.loop-at.count c.loop-at.at c.loop-at.invariant (omega arith) (omega (arith, long)) (search rules))
    ]

-- at the end of the loop the items are those whose flag is set
pub returns : goal.returns
returns g c = c.truncate.ensures.items ∙ keeps_done c.args.flags.now c.args.items.now.items c.loop-at.items.items c.loop-at.count c.loop-at.at c.loop-at.invariant (omega arith)
