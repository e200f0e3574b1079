use Rattle.std.specs.Prelude.{◌≡◌, ◌≤◌, get_or, length}
use Rattle.std.proofs.Common.{ap, arith, Err}
use Rattle.std.proofs.lemmas.List.{length-map}
use Rattle.sip_machine.specs.NumberedEvent.{event_in}
use Rattle.sip_machine.specs.inner.Pools.{picked}
use Rattle.sip_standard.specs.VerdictOf.{widest}
use Rattle.sip_states.specs.declared.state_set.TakeError.TheVariants.{TooMany}
use Rattle.sip_states.proofs.lists.EachOnce.{unseen-distinct}
use Rattle.sip_states.proofs.sets.Following.{Follows}
use Rattle.sip_states.proofs.sets.Taking.{took_kept}
use Rattle.sip_states.proofs.state_set.StateSet.take_each.Goals as goal

-- the book has every message that the states of the set name
pub given_rows-requires-clause-known : goal.given_rows-requires-clause-known
given_rows-requires-clause-known g c = rw (← c.self.view_is) at c.requires.known

-- after the event the set keeps its invariant: its states follow the rules of its machine, each is there once, and they are few
pub invariant_of-self : goal.invariant_of-self
invariant_of-self g c =
    let m = c.self.inside.machine in
    let d = g.M.Machine.ended m in
    let rows = c.in-Ok.rows.items in
    -- the states that are kept are those of the rows
    let states = picked c.given_rows.new.states d rows in
    let kept : c.keep.new.self ≡ states = rw c.deref.ensures.value at c.keep.ensures d in
    let stand = c.in-Ok.ensures.gives d in
    let size : length states ≡ length rows = length-map rows (λ row. get_or c.given_rows.new.states row d) in
    -- the states of the set are few, and they follow the rules of the machine
    let few : length states ≤ widest = let fits = c.in-Ok.ensures.few in omega (arith, size, fits) in
    let follows : Follows g.M.Machine.names g.M.Machine.seen (g.M.Machine.rules m) (g.M.Machine.ended m) (g.M.Machine.end_window m) (g.M.Machine.until m) =
    record { lawful = g.met.M.Machine.lawful m; ended_is = g.met.M.Machine.ended_stands m; ended_names = (g.met.M.Machine.ended_fits m).0; window_is = g.met.M.Machine.window_stands m; until_is = g.met.M.Machine.until_stands m; apart = g.met.M.Machine.apart } in
    rw (c.within-self-inside.ensures, c.moment.ensures, kept)
    (took_kept g.M.Machine.names g.M.Machine.in_range g.M.Machine.seen g.M.Machine.rules g.M.Machine.ended g.M.Machine.end_window g.M.Machine.until m follows c.args.book.now _ (event_in c.args.book.now c.args.event.now) states
    stand (unseen-distinct (g.M.Machine.seen c.args.book.now) states stand.distinct) few)

-- the states that are kept are exactly those that the event gives
pub returns-in-Ok-clause-states : goal.returns-in-Ok-clause-states
returns-in-Ok-clause-states g c =
    let m = c.self.inside.machine in
    let d = g.M.Machine.ended m in
    let rows = c.in-Ok.rows.items in
    let states = picked c.given_rows.new.states d rows in
    let kept : c.keep.new.self ≡ states = rw c.deref.ensures.value at c.keep.ensures d in
    rw (← c.self.view_is, kept) (rw c.get.ensures at c.in-Ok.ensures.gives d)

-- the states that are kept are no more than a set follows
pub returns-in-Ok-clause-few : goal.returns-in-Ok-clause-few
returns-in-Ok-clause-few g c =
    let m = c.self.inside.machine in
    let d = g.M.Machine.ended m in
    let rows = c.in-Ok.rows.items in
    -- as many states are kept as there are rows
    let states = picked c.given_rows.new.states d rows in
    let kept : c.keep.new.self ≡ states = rw c.deref.ensures.value at c.keep.ensures d in
    let size : length states ≡ length rows = length-map rows (λ row. get_or c.given_rows.new.states row d) in
    let same : length c.keep.new.self ≡ length states = ap length kept in
    let fits = c.in-Ok.ensures.few in
    omega (arith, size, same, fits)

-- where the event leads to more states than are followed, the rows said so
pub returns-in-Err-clause-too_many : goal.returns-in-Err-clause-too_many
returns-in-Err-clause-too_many g c = λ too_many.
    let same : c.in-Err.error ≡ TooMany = cc in
    rw (← c.self.view_is) (rw c.get.ensures at c.in-Err.ensures.too_many (ap (λ error. Err error) same))
