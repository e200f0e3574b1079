use Rattle.std.proofs.lemmas.Bool.{OnTrue_at}
use Rattle.machine_tests.proofs.runs.step_each_alone.Goals as goal

-- after the entry there is still one state, and the book has what it names
-- `told` says that `step` has answered yes. Then its contract tells of the one state: how many there are (`alone`), and what holds of it (`one`).
pub loop-moment-preserved : goal.loop-moment-preserved
loop-moment-preserved g c =
    let first = g.M.Machine.first c.args.machine.now in
    let told = c.if-not-branch.false in
    let one = OnTrue_at told (c.in_ok-step.ensures.one first) in
    record { alone = OnTrue_at told c.in_ok-step.ensures.alone; known = one.known; in_range = one.in_range }
