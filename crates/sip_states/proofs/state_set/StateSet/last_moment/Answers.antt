use Rattle.sip_states.proofs.sets.Following.{Follows, reach_seen}
use Rattle.sip_states.proofs.state_set.StateSet.last_moment.Goals as goal

-- the moment told is the last one to which some state of the set can wait
pub returns : goal.returns
returns g c =
    let m = c.self.inside.machine in
    -- the code's set follows the rules of the machine, as the machine's contracts say
    let follows : Follows g.M.Machine.names g.M.Machine.seen (g.M.Machine.rules m) (g.M.Machine.ended m) (g.M.Machine.end_window m) (g.M.Machine.until m) =
    record { lawful = g.met.M.Machine.lawful m; ended_is = g.met.M.Machine.ended_stands m; ended_names = (g.met.M.Machine.ended_fits m).0; window_is = g.met.M.Machine.window_stands m; until_is = g.met.M.Machine.until_stands m; apart = g.met.M.Machine.apart } in
    let last = rw c.get.ensures at c.last_of_all.ensures in
    -- a moment n is one to which the set can wait exactly if it is within what some state's `until` says, as the last moment of all is
    rw (← c.self.view_is)
    (λ texts n low.
    let reach = reach_seen g.M.Machine.names g.M.Machine.in_range g.M.Machine.seen (g.M.Machine.rules m) (g.M.Machine.ended m) (g.M.Machine.end_window m) (g.M.Machine.until m) follows texts c.self.inside.moment n low c.self.inside.states in
    (λ wait. (last n low).0 (reach.1 wait), λ within. reach.0 ((last n low).1 within)))
