-- t are the tables before. What the calls promise: `settles`, that a last moment was put on record; `anew`, that a set began anew; `added`, that a
-- transaction came into trouble. `waits` are the numbers that are still to hear the event, and h is what held before.
use Rattle.std.proofs.Common.{◌≤◌, ◌-◌, inl, inr, Some, refl, ap, ◌∙◌, subst}
use Rattle.std.proofs.lemmas.Result.{on_ok_weaker}
use Rattle.sip_states.specs.AnySet.{moment_of, start_of, IsKnownSet, IsEmpty}
use Rattle.sip_states.proofs.lists.Places.{set_place}
use Rattle.sip_verdict.proofs.tables.TablesPassing.{All-place, settles_leaves}
use Rattle.sip_verdict.proofs.surveys.passing.Watching.{watched_on, watched_off, watched_deaf, others_still, passes_with, passes_anew, anew_sets}
use Rattle.sip_verdict.proofs.surveys.passing.Hearing.{deaf_on, heard_on, heard_broken, heard_wide}
use Rattle.sip_verdict.proofs.releasing.hear_or_release.Goals as goal

-- the transaction is in trouble already, and hears nothing more
pub returns-then-has-clause-watched : goal.returns-then-has-clause-watched
returns-then-has-clause-watched g c = λ waits h. watched_deaf c.args.tables.now c.args.troubled.now c.args.number waits c.requires.given h (c.has.ensures ∙ ap Some c.if-has.true)

-- the transaction is in trouble already, so nothing changes for it
pub returns-then-has-clause-heard : goal.returns-then-has-clause-heard
returns-then-has-clause-heard g c = λ p es e waits times late once concerned h.
    deaf_on c.args.book.now p es e c.args.tables.now c.args.troubled.now c.args.number c.requires.given waits (c.has.ensures ∙ ap Some c.if-has.true) h

-- the set is not later than the event
pub hear-requires-clause-order : goal.hear-requires-clause-order
hear-requires-clause-order g c = All-place (λ set. moment_of set ≤ c.args.event.now.moment) c.args.tables.now.sets (c.args.number - 1) c.set_mut.result.now c.set_mut.ensures.value c.requires.may.order

-- the book has what the set names
pub hear-requires-clause-known : goal.hear-requires-clause-known
hear-requires-clause-known g c = All-place (IsKnownSet c.args.book.now) c.args.tables.now.sets (c.args.number - 1) c.set_mut.result.now c.set_mut.ensures.value c.requires.may.known

-- a set that goes on has a state
pub settle-requires-clause-state : goal.settle-requires-clause-state
settle-requires-clause-state g c = λ set at.
    elim (set_place c.args.tables.now.sets (c.args.number - 1) (c.args.number - 1) c.hear.new.set set at) [
      | inl h ↦ subst (λ s. ¬ IsEmpty s) h.1 (c.in_ok-hear.ensures.some c.in-Fine.is)
      | inr h ↦ absurd (h.0 refl)
    ]

-- after one set has heard the event, the tables may still pass the moment
pub returns-in-Fine-clause-may : goal.returns-in-Fine-clause-may
returns-in-Fine-clause-may g c =
    let t = c.args.tables.now in
    on_ok_weaker c.settle.result (λ settles.
    let (limit, agenda, is) = settles_leaves c.args.number c.hear.new.set t c.settle.new.self settles in
    passes_with c.args.book.now t c.settle.new.self (c.args.number - 1) c.args.event.now.moment c.hear.new.set c.requires.may c.in_ok-hear.ensures.order c.in_ok-hear.ensures.known (ap (λ x. x.keys) is) (ap (λ x. x.sets) is)) c.settle.ensures.ok

-- the transaction is watched: its last moment is on record
pub returns-in-Fine-clause-watched : goal.returns-in-Fine-clause-watched
returns-in-Fine-clause-watched g c =
    let t = c.args.tables.now in
    -- limit is the last moment to which the set can wait, which was put on record
    on_ok_weaker c.settle.result (λ settles waits h.
    let (limit, agenda, is) = settles_leaves c.args.number c.hear.new.set t c.settle.new.self settles in
    watched_on t c.args.troubled.now c.args.number waits c.requires.given h c.settle.new.self c.hear.new.set limit agenda (c.has.ensures ∙ ap Some c.if-has.false) (ap (λ x. x.keys) is) (ap (λ x. x.sets) is) (ap (λ x. x.records) is))
    c.settle.ensures.ok

-- the transaction goes on over the entry
pub returns-in-Fine-clause-heard : goal.returns-in-Fine-clause-heard
returns-in-Fine-clause-heard g c =
    -- t is the tables before; the set goes on to `limit`, and p is the times, es the entries before and e this one
    let t = c.args.tables.now in
    on_ok_weaker c.settle.result (λ settles p es e waits times late once concerned h.
    let (limit, agenda, is) = settles_leaves c.args.number c.hear.new.set t c.settle.new.self settles in
    heard_on c.args.book.now p es e t c.args.troubled.now c.args.number c.requires.given waits c.args.event.now late once concerned h (c.has.ensures ∙ ap Some c.if-has.false) c.set_mut.result.now c.hear.new.set c.set_mut.ensures.value
    c.in_ok-hear.field-0 c.in_ok-hear.ensures.stepped c.in-Fine.is c.settle.new.self (ap (λ x. x.keys) is) (ap (λ x. x.sets) is)) c.settle.ensures.ok

-- the other sets are as they were
pub returns-in-Fine-clause-others : goal.returns-in-Fine-clause-others
returns-in-Fine-clause-others g c =
    let t = c.args.tables.now in
    on_ok_weaker c.settle.result (λ settles.
    let (limit, agenda, is) = settles_leaves c.args.number c.hear.new.set t c.settle.new.self settles in others_still t c.settle.new.self c.args.number c.hear.new.set c.requires.given (ap (λ x. x.sets) is)) c.settle.ensures.ok

-- the other sets are as they were
pub returns-in_ok-restart_key-in-NoRun-clause-others : goal.returns-in_ok-restart_key-in-NoRun-clause-others
returns-in_ok-restart_key-in-NoRun-clause-others g c =
    let t = c.args.tables.now in
    let anew = c.in_ok-restart_key-in-NoRun.ensures.ok in
    on_ok_weaker c.add_broken.result (λ added. others_still t c.restart_key.new.self c.args.number (start_of t.times anew.key) c.requires.given
    (anew_sets t c.restart_key.new.self c.args.number c.hear.new.set anew.key (ap (λ x. x.sets) anew.begun))) c.add_broken.ensures

-- the other sets are as they were
pub returns-in_ok-restart_key-in-TooWide-clause-others : goal.returns-in_ok-restart_key-in-TooWide-clause-others
returns-in_ok-restart_key-in-TooWide-clause-others g c =
    let t = c.args.tables.now in
    let anew = c.in_ok-restart_key-in-TooWide.ensures.ok in
    on_ok_weaker c.add_wide.result (λ added. others_still t c.restart_key-in-TooWide.new.self c.args.number (start_of t.times anew.key) c.requires.given
    (anew_sets t c.restart_key-in-TooWide.new.self c.args.number c.hear.new.set anew.key (ap (λ x. x.sets) anew.begun))) c.add_wide.ensures

-- with the set that began anew the tables may still pass the moment
pub returns-in_ok-restart_key-in-NoRun-clause-may : goal.returns-in_ok-restart_key-in-NoRun-clause-may
returns-in_ok-restart_key-in-NoRun-clause-may g c =
    let t = c.args.tables.now in
    let anew = c.in_ok-restart_key-in-NoRun.ensures.ok in
    on_ok_weaker c.add_broken.result (λ added. passes_anew c.args.book.now t c.restart_key.new.self (c.args.number - 1) c.args.event.now.moment anew.key t.times c.requires.may (ap (λ x. x.keys) anew.begun)
    (anew_sets t c.restart_key.new.self c.args.number c.hear.new.set anew.key (ap (λ x. x.sets) anew.begun))) c.add_broken.ensures

-- the transaction is watched: it is in trouble, and has no last moment
pub returns-in_ok-restart_key-in-NoRun-clause-watched : goal.returns-in_ok-restart_key-in-NoRun-clause-watched
returns-in_ok-restart_key-in-NoRun-clause-watched g c =
    let t = c.args.tables.now in
    let anew = c.in_ok-restart_key-in-NoRun.ensures.ok in
    on_ok_weaker c.add_broken.result (λ added waits h. watched_off t c.args.troubled.now c.args.number waits c.requires.given h c.restart_key.new.self c.add_broken.new.self (start_of t.times anew.key) anew.endless added.deaf
    (ap (λ x. x.keys) anew.begun) (anew_sets t c.restart_key.new.self c.args.number c.hear.new.set anew.key (ap (λ x. x.sets) anew.begun)) (ap (λ x. x.records) anew.begun)) c.add_broken.ensures

-- where the event leaves no state, the transaction is called broken, and its set begins anew
pub returns-in_ok-restart_key-in-NoRun-clause-heard : goal.returns-in_ok-restart_key-in-NoRun-clause-heard
returns-in_ok-restart_key-in-NoRun-clause-heard g c =
    -- t is the tables and b the list of transactions in trouble before; `anew`: the tables in which this one set begins anew
    let t = c.args.tables.now in
    let b = c.args.troubled.now in
    let anew = c.in_ok-restart_key-in-NoRun.ensures.ok in
    -- p is the times, es the entries before and e this one, by which the definitions say that the transaction has no run
    on_ok_weaker c.add_broken.result (λ added p es e waits times late once concerned h.
    heard_broken c.args.book.now p es e t b c.args.number c.requires.given waits c.args.event.now late once concerned h (c.has.ensures ∙ ap Some c.if-has.false) c.set_mut.result.now c.hear.new.set c.set_mut.ensures.value
    c.in_ok-hear.field-0 c.in_ok-hear.ensures.stepped c.in-NoRun.is c.restart_key.new.self c.add_broken.new.self t.times anew.key anew.at times (ap (λ x. x.keys) anew.begun)
    (anew_sets t c.restart_key.new.self c.args.number c.hear.new.set anew.key (ap (λ x. x.sets) anew.begun)) added.deaf added.broken added.wide) c.add_broken.ensures

-- with the set that began anew the tables may still pass the moment
pub returns-in_ok-restart_key-in-TooWide-clause-may : goal.returns-in_ok-restart_key-in-TooWide-clause-may
returns-in_ok-restart_key-in-TooWide-clause-may g c =
    let t = c.args.tables.now in
    let anew = c.in_ok-restart_key-in-TooWide.ensures.ok in
    on_ok_weaker c.add_wide.result (λ added. passes_anew c.args.book.now t c.restart_key-in-TooWide.new.self (c.args.number - 1) c.args.event.now.moment anew.key t.times c.requires.may (ap (λ x. x.keys) anew.begun)
    (anew_sets t c.restart_key-in-TooWide.new.self c.args.number c.hear.new.set anew.key (ap (λ x. x.sets) anew.begun))) c.add_wide.ensures

-- the transaction is watched: it is in trouble, and has no last moment
pub returns-in_ok-restart_key-in-TooWide-clause-watched : goal.returns-in_ok-restart_key-in-TooWide-clause-watched
returns-in_ok-restart_key-in-TooWide-clause-watched g c =
    let t = c.args.tables.now in
    let anew = c.in_ok-restart_key-in-TooWide.ensures.ok in
    on_ok_weaker c.add_wide.result (λ added waits h. watched_off t c.args.troubled.now c.args.number waits c.requires.given h c.restart_key-in-TooWide.new.self c.add_wide.new.self (start_of t.times anew.key) anew.endless added.deaf
    (ap (λ x. x.keys) anew.begun) (anew_sets t c.restart_key-in-TooWide.new.self c.args.number c.hear.new.set anew.key (ap (λ x. x.sets) anew.begun)) (ap (λ x. x.records) anew.begun)) c.add_wide.ensures

-- where the event leaves too many states, the transaction is called too wide, and its set begins anew
pub returns-in_ok-restart_key-in-TooWide-clause-heard : goal.returns-in_ok-restart_key-in-TooWide-clause-heard
returns-in_ok-restart_key-in-TooWide-clause-heard g c =
    -- t is the tables and b the list of transactions in trouble before; `anew`: the tables in which this one set begins anew
    let t = c.args.tables.now in
    let b = c.args.troubled.now in
    let anew = c.in_ok-restart_key-in-TooWide.ensures.ok in
    -- p is the times, es the entries before and e this one, by which the definitions say that the transaction has too many states
    on_ok_weaker c.add_wide.result (λ added p es e waits times late once concerned h.
    heard_wide c.args.book.now p es e t b c.args.number c.requires.given waits c.args.event.now late once concerned h (c.has.ensures ∙ ap Some c.if-has.false) c.set_mut.result.now c.hear.new.set c.set_mut.ensures.value
    c.in_ok-hear.field-0 c.in_ok-hear.ensures.stepped c.in-TooWide.is c.restart_key-in-TooWide.new.self c.add_wide.new.self t.times anew.key anew.at times (ap (λ x. x.keys) anew.begun)
    (anew_sets t c.restart_key-in-TooWide.new.self c.args.number c.hear.new.set anew.key (ap (λ x. x.sets) anew.begun)) added.deaf added.wide added.broken) c.add_wide.ensures
