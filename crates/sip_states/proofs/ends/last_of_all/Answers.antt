use Rattle.std.proofs.Common.{◌≡◌, ◌≤◌, ◌<◌, length, max, get_or, take, arith, take_all}
use Rattle.std.proofs.lemmas.List.{take_more, get_or_default}
use Rattle.std.proofs.lemmas.List.Elements.{All-get_or}
use Rattle.sip_states.proofs.runs.Reaching.{last_push, last_all}
use Rattle.sip_states.proofs.ends.last_of_all.Goals as goal

-- the moments of the state are in range
pub last_of-requires-clause-in_range : goal.last_of-requires-clause-in_range
last_of-requires-clause-in_range g c = λ d. All-get_or g.M.Machine.in_range c.args.pool.now c.loop-at.at d (omega arith) c.requires.in_range

-- one state can wait for ever, so all together can
pub returns-in_err-last_of : goal.returns-in_err-last_of
returns-in_err-last_of g c = rw c.from_residual.ensures (λ m low.
    let xs = c.args.pool.now in
    let i = c.loop-at.at in
    let d = g.M.Machine.ended c.args.machine.now in
    let inside : i < length xs = omega arith in
    (λ _. tt, λ _. (i, get_or xs i d, inside, get_or_default xs i (get_or xs i d) d inside, (c.in_err-last_of.ensures d m low).1 tt)))

-- after one state more, the last moment so far is the latest to which one of them can wait
pub loop-at-preserved : goal.loop-at-preserved
loop-at-preserved g c =
    -- xs are the states of the pool, i is the place of the one that was looked at, and d stands for no state
    let m = c.args.machine.now in
    let xs = c.args.pool.now in
    let i = c.loop-at.at in
    let d = g.M.Machine.ended m in
    let low : i < length xs = omega arith in
    -- the last moment is now the later one of that so far and of this state's
    let later : c.max-last.result ≡ max c.loop-at.last c.in_ok-last_of.field-0 = omega arith in
    rw (take_more xs i d low)
    (last_push (g.M.Machine.end_window m) (g.M.Machine.until m) c.args.from (take i xs) (get_or xs i d) c.loop-at.last c.in_ok-last_of.field-0 c.max-last.result c.loop-at.invariant (c.in_ok-last_of.ensures d) later)

-- at the end of the loop the last moment is the latest to which one of all states can wait
pub returns : goal.returns
returns g c =
    let m = c.args.machine.now in
    let xs = c.args.pool.now in
    let past : length xs ≤ c.loop-at.at = omega arith in
    let so_far = rw (take_all c.loop-at.at xs past) at c.loop-at.invariant in
    last_all (g.M.Machine.end_window m) (g.M.Machine.until m) c.args.from xs c.loop-at.last c.requires.some c.requires.waiting so_far
