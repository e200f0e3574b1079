use Rattle.sip_states.proofs.sets.Following.{Follows, advances_stand}
use Rattle.sip_states.proofs.sets.Taking.{advanced_kept}
use Rattle.sip_states.proofs.state_set.StateSet.advance.Goals as goal

-- the advanced states are kept as all states of a set are
pub invariant_of-self-2 : goal.invariant_of-self-2
invariant_of-self-2 g c =
    let m = c.self.inside.machine in
    let follows : Follows g.M.Machine.names g.M.Machine.seen (g.M.Machine.rules m) (g.M.Machine.ended m) (g.M.Machine.end_window m) (g.M.Machine.until m) =
    record { lawful = g.met.M.Machine.lawful m; ended_is = g.met.M.Machine.ended_stands m; ended_names = (g.met.M.Machine.ended_fits m).0; window_is = g.met.M.Machine.window_stands m; until_is = g.met.M.Machine.until_stands m; apart = g.met.M.Machine.apart } in
    rw c.in_ok-at.ensures
    (advanced_kept g.M.Machine.names g.M.Machine.in_range g.M.Machine.seen g.M.Machine.rules g.M.Machine.ended g.M.Machine.end_window g.M.Machine.until m follows
    c.self.inside.moment c.args.moment c.self.inside.states c.advance_states.new.pool c.self.invariant (rw c.get.ensures at c.in_ok-advance_states.ensures.advances))

-- the states of the set are exactly those in which one can stand at the new moment
pub returns-clause-states : goal.returns-clause-states
returns-clause-states g c =
    let m = c.self.inside.machine in
    -- the code's set follows the rules of the machine, as the machine's contracts say
    let follows : Follows g.M.Machine.names g.M.Machine.seen (g.M.Machine.rules m) (g.M.Machine.ended m) (g.M.Machine.end_window m) (g.M.Machine.until m) =
    record { lawful = g.met.M.Machine.lawful m; ended_is = g.met.M.Machine.ended_stands m; ended_names = (g.met.M.Machine.ended_fits m).0; window_is = g.met.M.Machine.window_stands m; until_is = g.met.M.Machine.until_stands m; apart = g.met.M.Machine.apart } in
    -- the states of the set at the new moment are those to which the old ones can wait
    rw (← c.self.view_is)
    (λ texts book known. advances_stand g.M.Machine.names g.M.Machine.in_range g.M.Machine.seen (g.M.Machine.rules m) (g.M.Machine.ended m) (g.M.Machine.end_window m) (g.M.Machine.until m) follows texts
    c.self.inside.moment c.args.moment (rw (← c.self.view_is) at c.requires) c.self.inside.states book c.advance_states.new.pool known (rw c.get.ensures at c.in_ok-advance_states.ensures.advances))
