use Rattle.std.proofs.Common.{◌∙◌, ap}
use Rattle.c_siptrace.specs.Plain.{plain, plain_finding}
use Rattle.c_siptrace.proofs.Handing.{handed_next, handed_all}
use Rattle.c_siptrace.proofs.surveying.hand_out.Goals as goal

-- `l` is what holds at the turn of the loop: `l.place` findings stand in the room, which is `l.room`.

-- one finding more stands in the room: what is written there is the finding in plain numbers, by `of` and `from`
pub loop-place-preserved : goal.loop-place-preserved
loop-place-preserved c =
    let l = c.loop-place in
    handed_next plain_finding c.args.found.now c.args.room.now c.min-count.result c.min-count.ensures l.place _ c.of.result l.room c.loop-place-test.true (c.of.ensures ∙ ap plain c.from.ensures) l.invariant

-- where all findings have room, all of them stand there after the loop
pub returns-then-found-room-clause-handed : goal.returns-then-found-room-clause-handed
returns-then-found-room-clause-handed c =
    let l = c.loop-place in
    handed_all plain_finding c.args.found.now c.args.room.now c.min-count.result c.min-count.ensures l.place l.room l.auto.place-end c.loop-place-test.false l.invariant

-- where not all findings have room, the first ones that fit stand there after the loop
pub returns-else-found-room-clause-handed : goal.returns-else-found-room-clause-handed
returns-else-found-room-clause-handed c =
    let l = c.loop-place in
    handed_all plain_finding c.args.found.now c.args.room.now c.min-count.result c.min-count.ensures l.place l.room l.auto.place-end c.loop-place-test.false l.invariant
