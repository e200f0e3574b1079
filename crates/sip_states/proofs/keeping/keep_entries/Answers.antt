use Rattle.std.proofs.Common.{◌+◌, arith, rules}
use Rattle.sip_states.proofs.lists.Kept.{step_not, step_swap}
use Rattle.sip_states.proofs.keeping.keep_entries.Goals.{then-flags-at, else-flags-at}
use Rattle.sip_states.proofs.keeping.keep_entries.Goals as goal

-- of the entries up to here, those whose flag is set stand at the front, in their order
pub loop-at-preserved : goal.loop-at-preserved
loop-at-preserved g c =
    let flags = c.args.flags.now in
    let xs = c.args.map.now.entries in
    let ys = c.loop-at.map.entries in
    let long = c.loop-at.invariant.long in
    elim c.if-flags-at.branch [
      -- an entry whose flag is set moves to the front, and any other is passed over
      | then-flags-at w ↦
          rw (w.map-is, w.count-is, w.swap_indices.ensures.entries)
          (step_swap flags xs ys c.loop-at.count c.loop-at.at c.loop-at.invariant (omega arith) (omega (arith, long, c.requires)) (search rules))
      | else-flags-at w ↦
          rw (w.map-is, w.count-is) (step_not flags xs ys c.loop-at.count c.loop-at.at c.loop-at.invariant (omega arith) (omega (arith, long, c.requires)) (search rules))
    ]
