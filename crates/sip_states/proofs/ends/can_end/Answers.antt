use Rattle.std.specs.Prelude.{get_or}
use Rattle.std.proofs.lemmas.Bool.{leb-true, le-leb}
use Rattle.sip_states.proofs.runs.Reaching.{can_end_by}
use Rattle.sip_states.proofs.ends.can_end.Goals as goal

-- a state without a window has no end
pub returns-in-None : goal.returns-in-None
returns-in-None g c = λ d. (λ e. absurd (cc), λ can. absurd (c.in-None.ensures d can.at can.is))

-- a state ends within its window, up to its last moment
pub returns-in-Some : goal.returns-in-Some
returns-in-Some g c = λ d.
    let m = c.args.machine.now in
    let x = get_or c.args.pool.now c.args.at d in
    let by = can_end_by (g.M.Machine.end_window m x) (g.M.Machine.until m x) c.args.from c.in-Some.first c.args.to (c.in-Some.ensures d) in
    (λ e. by.1 (leb-true c.in-Some.first c.args.to e), λ can. le-leb c.in-Some.first c.args.to (by.0 can))
