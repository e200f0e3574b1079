use Rattle.std.proofs.Common.{◌≡◌, ◌∙◌, arith, get_or, length, sym, true≢false}
use Rattle.std.proofs.lemmas.Bool.{OnTrue_at, OnTrue_from}
use Rattle.std.proofs.lemmas.List.Elements.{All-get_or}
use Rattle.std.proofs.lemmas.Result.{IfOk-weaker}
use Rattle.sip_machine.specs.NumberedEvent.{event_in}
use Rattle.sip_machine.specs.Rules.{Knows}
use Rattle.sip_states.proofs.sets.Following.{Follows}
use Rattle.sip_states.proofs.sets.Stepping.{gives_alone, only}
use Rattle.sip_states.proofs.steps.step_alone.Goals as goal

-- the book has what the one state names
pub step-requires-clause-known : goal.step-requires-clause-known
step-requires-clause-known g c = λ d. All-get_or (Knows g.M.Machine.names c.args.book.now) c.args.pool.now 0 d (omega arith) c.requires.known

-- the moments of the one state are in range
pub step-requires-clause-in_range : goal.step-requires-clause-in_range
step-requires-clause-in_range g c = λ d. All-get_or g.M.Machine.in_range c.args.pool.now 0 d (omega arith) c.requires.in_range

-- where the one state cannot end before the event, what it gives is all that the event gives
pub returns-clause-gives : goal.returns-clause-gives
returns-clause-gives g c =
    let texts = c.args.book.now in
    let m = c.args.machine.now in
    let r = g.M.Machine.rules m in
    let e = event_in texts c.args.event.now in
    let xs = c.args.pool.now in
    let s = get_or xs 0 (g.M.Machine.ended m) in
    -- the pool has one state, which cannot end before the event
    let one : length xs ≡ 1 = omega arith in
    let is = only xs (g.M.Machine.ended m) one in
    let ends = rw c.moment.ensures at c.some_can_end.ensures in
    -- the state follows the rules of the machine
    let follows : Follows g.M.Machine.names g.M.Machine.seen r (g.M.Machine.ended m) (g.M.Machine.end_window m) (g.M.Machine.until m) =
    record { lawful = g.met.M.Machine.lawful m; ended_is = g.met.M.Machine.ended_stands m; ended_names = (g.met.M.Machine.ended_fits m).0; window_is = g.met.M.Machine.window_stands m; until_is = g.met.M.Machine.until_stands m; apart = g.met.M.Machine.apart } in
    -- the state cannot end before the event, so that it alone is led on
    IfOk-weaker c.step.result _ _
    (λ stepped gives.
    OnTrue_from stepped _
    (λ told.
    gives_alone g.M.Machine.names g.M.Machine.in_range g.M.Machine.seen r (g.M.Machine.ended m) (g.M.Machine.end_window m) (g.M.Machine.until m) follows texts xs c.args.from e
    c.requires.order s is (λ some. true≢false (sym (ends.1 some) ∙ c.if-some_can_end.false)) c.step.new.pool (OnTrue_at told gives)))
    (c.step.ensures.one (g.M.Machine.ended m))
