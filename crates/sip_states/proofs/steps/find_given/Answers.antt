use Rattle.std.proofs.Common.{◌≡◌, ◌∙◌, ◌++◌, ◌∷◌, [], ◌+◌, All, ap, append_assoc, arith, length, length-append, refl, subst, sym, take, take_all, true≢false}
use Rattle.std.proofs.lemmas.List.Elements.{All-nil, All-take}
use Rattle.sip_machine.specs.NumberedEvent.{event_in}
use Rattle.sip_machine.specs.Texts.{Keeps}
use Rattle.sip_machine.specs.Rules.{Covers, Knows, StandFor}
use Rattle.sip_machine.specs.Owing.{at_rest}
use Rattle.sip_machine.proofs.pools.CoversLemmas.{before-more}
use Rattle.sip_machine.proofs.pools.PoolLemmas.{take-old}
use Rattle.sip_states.specs.inner.Ways.{GivesFrom, GivesAfter}
use Rattle.sip_states.proofs.sets.Following.{Follows}
use Rattle.sip_states.proofs.sets.Stepping.{gives_stayed, gives_ended, found-behind, next-there}
use Rattle.sip_states.proofs.steps.find_given.Goals as goal

-- the book has what the states before the event name
pub step_each-requires-clause-known : goal.step_each-requires-clause-known
step_each-requires-clause-known g c = All-take (Knows g.M.Machine.names c.args.book.now) c.len-count.result c.args.pool.now c.requires.known

-- the moments of the states before the event are in range
pub step_each-requires-clause-in_range : goal.step_each-requires-clause-in_range
step_each-requires-clause-in_range g c = All-take g.M.Machine.in_range c.len-count.result c.args.pool.now c.requires.in_range

-- where no state can end before the event, what the event gives is found from the states themselves
pub returns-then-not-some_can_end-clause-gives : goal.returns-then-not-some_can_end-clause-gives
returns-then-not-some_can_end-clause-gives g c =
    let texts = c.args.book.now in
    let m = c.args.machine.now in
    let r = g.M.Machine.rules m in
    let e = event_in texts c.args.event.now in
    let xs = c.args.pool.now in
    -- all states of the pool were asked
    let n = c.len-count.result in
    let size = c.len-count.ensures in
    let (found, is, covers) = c.in_ok-step_each.ensures.gives in
    let all : take n xs ≡ xs = take_all n xs (omega (arith, size)) in
    let ends = rw c.moment.ensures at c.some_can_end.ensures in
    -- the states follow the rules of the machine, and none can end
    let follows : Follows g.M.Machine.names g.M.Machine.seen r (g.M.Machine.ended m) (g.M.Machine.end_window m) (g.M.Machine.until m) =
    record { lawful = g.met.M.Machine.lawful m; ended_is = g.met.M.Machine.ended_stands m; ended_names = (g.met.M.Machine.ended_fits m).0; window_is = g.met.M.Machine.window_stands m; until_is = g.met.M.Machine.until_stands m; apart = g.met.M.Machine.apart } in
    subst (Covers g.M.Machine.names g.M.Machine.in_range g.M.Machine.seen texts (GivesAfter g.M.Machine.seen texts r xs c.args.from e))
    (sym (found-behind xs found c.step_each.new.pool n is size))
    (gives_stayed g.M.Machine.names g.M.Machine.in_range g.M.Machine.seen r (g.M.Machine.ended m) (g.M.Machine.end_window m) (g.M.Machine.until m) follows texts xs c.args.from e
    c.requires.order (λ some. true≢false (sym (ends.1 some) ∙ c.if-not-some_can_end.true)) found
    (subst (λ ys. Covers g.M.Machine.names g.M.Machine.in_range g.M.Machine.seen texts (GivesFrom g.M.Machine.seen texts r ys e) found) all covers))

-- the book has all that the old states name, which stand before ended
pub step_each-requires-2-clause-known : goal.step_each-requires-2-clause-known
step_each-requires-2-clause-known g c =
    subst (All (Knows g.M.Machine.names c.args.book.now)) (sym (take-old c.args.pool.now (at_rest c.ended.result ∷ []) c.push.new.self c.len-count.result c.in_ok-push.ensures.ok c.len-count.ensures)) c.requires.known

-- the states before the event are as they were, and so are their moments
pub step_each-requires-2-clause-in_range : goal.step_each-requires-2-clause-in_range
step_each-requires-2-clause-in_range g c =
    subst (All g.M.Machine.in_range) (sym (take-old c.args.pool.now (at_rest c.ended.result ∷ []) c.push.new.self c.len-count.result c.in_ok-push.ensures.ok c.len-count.ensures)) c.requires.in_range

-- where memory is refused, the old states are as they were
pub returns-in_err-step_each-2-clause-before : goal.returns-in_err-step_each-2-clause-before
returns-in_err-step_each-2-clause-before g c =
    before-more c.args.pool.now c.push.new.self c.step_each-2.new.pool (at_rest c.ended.result ∷ []) c.in_ok-push.ensures.ok c.in_err-step_each-2.ensures.before

-- the ended state names nothing, so the book has what it names
pub successors-requires-clause-known : goal.successors-requires-clause-known
successors-requires-clause-known g c = λ d.
    let m = c.args.machine.now in
    let (found, is, covers) = c.in_ok-step_each-2.ensures.gives in
    let there = next-there c.args.pool.now c.push.new.self c.step_each-2.new.pool found (at_rest c.ended.result) d c.len-count.result c.in_ok-push.ensures.ok is c.len-count.ensures ∙ c.ended.ensures in
    subst (Knows g.M.Machine.names c.args.book.now) (sym there) (subst (All (Keeps c.args.book.now)) (sym (g.met.M.Machine.ended_fits m).0) (All-nil (Keeps c.args.book.now)))

-- the ended state, which was pushed, is in range
pub successors-requires-clause-in_range : goal.successors-requires-clause-in_range
successors-requires-clause-in_range g c = λ d.
    let m = c.args.machine.now in
    let (found, is, covers) = c.in_ok-step_each-2.ensures.gives in
    let there = next-there c.args.pool.now c.push.new.self c.step_each-2.new.pool found (at_rest c.ended.result) d c.len-count.result c.in_ok-push.ensures.ok is c.len-count.ensures ∙ c.ended.ensures in
    subst g.M.Machine.in_range (sym there) (g.met.M.Machine.ended_fits m).1

-- where memory is refused, the old states are as they were
pub returns-in_err-successors-clause-before : goal.returns-in_err-successors-clause-before
returns-in_err-successors-clause-before g c =
    before-more c.args.pool.now c.push.new.self c.successors.new.pool (at_rest c.ended.result ∷ []) c.in_ok-push.ensures.ok
    (ap (take (length c.push.new.self)) c.in_err-successors.ensures.err ∙ c.in_ok-step_each-2.ensures.before)

-- what was found begins after the old states and ended
pub returns-clause-within : goal.returns-clause-within
returns-clause-within g c =
    let (found, is, covers) = c.in_ok-step_each-2.ensures.gives in
    let (added, new_is, gives) = c.in_ok-successors.ensures.ok (g.M.Machine.ended c.args.machine.now) in
    -- mid are the old states and ended; what was found comes after them, and what was added after that
    let mid = c.push.new.self in
    let one : length c.step_each-2.new.pool ≡ length mid + length found = ap length is ∙ length-append mid found in
    let two : length c.successors.new.pool ≡ length c.step_each-2.new.pool + length added = ap length new_is ∙ length-append c.step_each-2.new.pool added in
    let first = c.len-first.ensures in
    omega (arith, one, two, first)

-- where some state can end before the event, what it gives to ended is found too
pub returns-clause-gives : goal.returns-clause-gives
returns-clause-gives g c =
    let texts = c.args.book.now in
    let m = c.args.machine.now in
    let r = g.M.Machine.rules m in
    let e = event_in texts c.args.event.now in
    let xs = c.args.pool.now in
    let n = c.len-count.result in
    -- what was found of the states, and then of ended
    let mid = c.push.new.self in
    let ended = g.M.Machine.ended m in
    let (found, is, covers) = c.in_ok-step_each-2.ensures.gives in
    let (added, new_is, gives) = c.in_ok-successors.ensures.ok ended in
    -- the states that were asked are those before ended, which stands after them
    let all : take n mid ≡ xs = take-old xs (at_rest c.ended.result ∷ []) mid n c.in_ok-push.ensures.ok c.len-count.ensures in
    let there = next-there xs mid c.step_each-2.new.pool found (at_rest c.ended.result) ended n c.in_ok-push.ensures.ok is c.len-count.ensures ∙ c.ended.ensures in
    let whole = new_is ∙ ap (λ ys. ys ++ added) is ∙ append_assoc mid found added in
    let ends = rw c.moment.ensures at c.some_can_end.ensures in
    -- the states follow the rules of the machine, and some can end
    let follows : Follows g.M.Machine.names g.M.Machine.seen r (g.M.Machine.ended m) (g.M.Machine.end_window m) (g.M.Machine.until m) =
    record { lawful = g.met.M.Machine.lawful m; ended_is = g.met.M.Machine.ended_stands m; ended_names = (g.met.M.Machine.ended_fits m).0; window_is = g.met.M.Machine.window_stands m; until_is = g.met.M.Machine.until_stands m; apart = g.met.M.Machine.apart } in
    subst (Covers g.M.Machine.names g.M.Machine.in_range g.M.Machine.seen texts (GivesAfter g.M.Machine.seen texts r xs c.args.from e))
    (sym (found-behind mid (found ++ added) c.successors.new.pool c.len-first.result whole c.len-first.ensures))
    (gives_ended g.M.Machine.names g.M.Machine.in_range g.M.Machine.seen r ended (g.M.Machine.end_window m) (g.M.Machine.until m) follows texts xs c.args.from e
    c.requires.order (ends.0 c.if-not-some_can_end.false) found added (found ++ added)
    (subst (λ ys. Covers g.M.Machine.names g.M.Machine.in_range g.M.Machine.seen texts (GivesFrom g.M.Machine.seen texts r ys e) found) all covers)
    (subst (λ s. StandFor g.M.Machine.names g.M.Machine.in_range g.M.Machine.seen texts (r.Take (g.M.Machine.seen texts s) e) added) there gives) refl)

-- the old states are as they were
pub returns-clause-before : goal.returns-clause-before
returns-clause-before g c =
    let (found, is, covers) = c.in_ok-step_each-2.ensures.gives in
    let (added, new_is, gives) = c.in_ok-successors.ensures.ok (g.M.Machine.ended c.args.machine.now) in
    let mid = c.push.new.self in
    let whole = new_is ∙ ap (λ ys. ys ++ added) is ∙ append_assoc mid found added in
    before-more c.args.pool.now mid c.successors.new.pool (at_rest c.ended.result ∷ []) c.in_ok-push.ensures.ok (take-old mid (found ++ added) c.successors.new.pool _ whole refl)
