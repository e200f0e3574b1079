use Rattle.std.proofs.Common.{◌≡◌, ◌<◌, arith, get_or, length}
use Rattle.std.proofs.lemmas.List.{length-map}
use Rattle.sip_machine.specs.NumberedEvent.{event_in}
use Rattle.sip_machine.specs.Owing.{CodeOwing}
use Rattle.sip_machine.specs.inner.Pools.{picked}
use Rattle.sip_machine.specs.Rules.{StandFor}
use Rattle.sip_standard.specs.VerdictOf.{widest}
use Rattle.sip_states.specs.inner.Ways.{GivesAfter}
use Rattle.sip_states.proofs.lists.EachOnce.{picked-members, picked-distinct}
use Rattle.sip_states.proofs.sets.Following.{Follows}
use Rattle.sip_states.proofs.sets.Stepping.{covers_stand}
use Rattle.sip_states.proofs.sets.Taking.{many_wide}
use Rattle.sip_states.proofs.state_set.given_rows.Given.{Over}
use Rattle.sip_states.proofs.state_set.given_rows.Goals as goal
use Rattle.sip_states.proofs.state_set.given_rows.Goals.{After-len}

-- What follows is of a call g that is over, c being what holds after its last step: the states were found, and each was taken once.
module _ (g : Over) (c : After-len g) where
  -- the states that were found, each once, stand for exactly what the event gives
  found_stand : (x : CodeOwing _) → StandFor g.M.Machine.names g.M.Machine.in_range g.M.Machine.seen c.args.book.now
      (GivesAfter g.M.Machine.seen c.args.book.now (g.M.Machine.rules c.args.machine.now) c.args.states.now c.args.from (event_in c.args.book.now c.args.event.now))
      (picked c.find_given.new.pool x c.in_ok-rows.rows.items)
  found_stand x =
      let m = c.args.machine.now in
      let r = g.M.Machine.rules m in
      let texts = c.args.book.now in
      -- xs are the states before the event, and `new` those after it
      let xs = c.args.states.now in
      let e = event_in texts c.args.event.now in
      let new = c.find_given.new.pool in
      let rows = c.in_ok-rows.rows.items in
      let ones = c.in_ok-rows.ensures in
      -- the states follow the rules of the machine, and of equal ones the first stands there
      let follows : Follows g.M.Machine.names g.M.Machine.seen r (g.M.Machine.ended m) (g.M.Machine.end_window m) (g.M.Machine.until m) =
      record { lawful = g.met.M.Machine.lawful m; ended_is = g.met.M.Machine.ended_stands m; ended_names = (g.met.M.Machine.ended_fits m).0; window_is = g.met.M.Machine.window_stands m; until_is = g.met.M.Machine.until_stands m; apart = g.met.M.Machine.apart } in
      covers_stand g.M.Machine.names g.M.Machine.in_range g.M.Machine.seen r (g.M.Machine.ended m) (g.M.Machine.end_window m) (g.M.Machine.until m) follows texts xs c.args.from e
      c.requires.order c.requires.book (GivesAfter g.M.Machine.seen texts r xs c.args.from e) _ (picked new x rows)
      c.in_ok-first.ensures.gives (picked-members new c.in_ok-first.first rows x ones) (picked-distinct new c.in_ok-first.first rows x ones)

-- where more states were found than a set follows, the event gives too many
pub returns-then-len-gt-WIDEST-clause-too_many : goal.returns-then-len-gt-WIDEST-clause-too_many
returns-then-len-gt-WIDEST-clause-too_many g c = λ _.
    let at = (goal.at.returns-then-len-gt-WIDEST-clause-too_many g c).After-len in
    let x = g.M.Machine.ended c.args.machine.now in
    let rows = c.in_ok-rows.rows.items in
    let states = picked c.find_given.new.pool x rows in
    -- there are more rows than a set follows, and so more states
    let size : length states ≡ length rows = length-map rows (λ row. get_or c.find_given.new.pool row x) in
    let len = c.len.ensures in
    let ok = c.in_ok-rows.rows.ok.0 in
    let many : widest < length states = omega (arith, size, len, ok) in
    many_wide g.M.Machine.names g.M.Machine.in_range g.M.Machine.seen c.args.book.now _ states (found_stand g at x) many

-- the states that were found, each once, are those that the event gives
pub returns-clause-gives : goal.returns-clause-gives
returns-clause-gives g c = λ x. found_stand g (goal.at.returns-clause-gives g c).After-len x
