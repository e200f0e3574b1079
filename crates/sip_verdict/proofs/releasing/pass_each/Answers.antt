use Rattle.std.proofs.Common.{◌≤◌, Some, None, [], sym, ◌∙◌, subst}
use Rattle.std.proofs.lemmas.Result.{on_ok_weaker}
use Rattle.sip_states.specs.AnySet.{IsKnownSet}
use Rattle.sip_verdict.specs.Entries.{newest_moment}
use Rattle.sip_verdict.specs.inner.Concerned.{each}
use Rattle.sip_verdict.specs.inner.TablesTracking.{AreTold, MayPass, MayHear}
use Rattle.sip_verdict.proofs.tables.TablesPassing.{All-place}
use Rattle.sip_verdict.proofs.surveys.passing.Waiting.{mark_passes, event_waits, event_concerns, hear_still}
use Rattle.sip_verdict.proofs.surveys.passing.Watching.{watched_more}
use Rattle.sip_verdict.proofs.releasing.pass_each.Goals as goal

-- what was overdue was released, and the tables may still pass the moment
pub returns-in_default-clause-may : goal.returns-in_default-clause-may
returns-in_default-clause-may g c = c.in_ok-release_overdue.ensures.may c.args.book.now c.requires.may

-- the book still has what the other sets name
pub returns-in_default-clause-others : goal.returns-in_default-clause-others
returns-in_default-clause-others g c = λ texts n set may none at. All-place (IsKnownSet texts) c.release_overdue.new.tables.sets n set at (c.in_ok-release_overdue.ensures.may texts may).known

-- a set that neither hears the event nor was released is as it was, and so the book has all that it names
pub returns-clause-others : goal.returns-clause-others
returns-clause-others g c =
    on_ok_weaker c.hear_each.result (λ still texts n set may none at.
    All-place (IsKnownSet texts) c.release_overdue.new.tables.sets n set (sym (still n (rw c.in-Some.is at none)) ∙ at) (c.in_ok-release_overdue.ensures.may texts may).known) c.hear_each.ensures.others

-- what was overdue was released, and the rest is watched as before
pub returns-in_default-clause-watched : goal.returns-in_default-clause-watched
returns-in_default-clause-watched g c = c.in_ok-release_overdue.ensures.watched [] (rw c.in_default.is at c.requires.watched)

-- an entry that no transaction hears is passed where no last moment is past
pub returns-in_default-clause-passed : goal.returns-in_default-clause-passed
returns-in_default-clause-passed g c = λ p es e times late now told h.
    let released = c.in_ok-release_overdue.ensures in
    let u = c.release_overdue.new.tables in
    let watched = rw c.in_default.is at c.requires.watched in
    -- no transaction hears the entry, so each passes it as the moment has it, once the overdue ones are released
    mark_passes c.args.book.now p es e c.args.moment late now u c.release_overdue.new.troubled (released.may c.args.book.now c.requires.may) released.none
    (subst (λ ks. AreTold c.args.book.now ks c.args.moment None e) (sym released.keys) (rw c.in_default.is at told)) (released.watched [] watched) (released.released c.args.book.now p es e [] times late now c.requires.may watched h)

-- the hearers are still those of the tables after some were released
pub hear_each-requires-clause-hear : goal.hear_each-requires-clause-hear
hear_each-requires-clause-hear g c =
    let hear = hear_still c.args.book.now c.args.tables.now c.release_overdue.new.tables c.args.moment c.in-Some.hearing.now c.in_ok-release_overdue.ensures.keys (c.requires.hear c.in-Some.hearing c.in-Some.is) in
    subst (λ m. MayHear c.args.book.now c.release_overdue.new.tables m c.in-Some.hearing.now) (sym hear.at) hear

-- there is a flag for each key
pub hear_each-requires-clause-long : goal.hear_each-requires-clause-long
hear_each-requires-clause-long g c = (c.in_ok-release_overdue.ensures.watched _ c.requires.watched).long

-- the tables may pass the moment of the event
pub hear_each-requires-clause-may : goal.hear_each-requires-clause-may
hear_each-requires-clause-may g c =
    subst (MayPass c.args.book.now c.release_overdue.new.tables) (sym (c.requires.hear c.in-Some.hearing c.in-Some.is).at) (c.in_ok-release_overdue.ensures.may c.args.book.now c.requires.may)

-- the entry was heard, and the tables may still pass the moment
pub returns-clause-may : goal.returns-clause-may
returns-clause-may g c =
    on_ok_weaker c.hear_each.result (λ may. subst (MayPass c.args.book.now c.hear_each.new.tables) (c.requires.hear c.in-Some.hearing c.in-Some.is).at may) c.hear_each.ensures.may

-- the entry was heard, and each transaction is watched as it is now
pub returns-clause-watched : goal.returns-clause-watched
returns-clause-watched g c =
    on_ok_weaker c.hear_each.result (λ watched. watched (c.in_ok-release_overdue.ensures.watched (each c.in-Some.hearing.now.concerned) (rw c.in-Some.is at c.requires.watched))) c.hear_each.ensures.watched

-- first the transactions whose time is over are released, then the others hear the event: so all have passed the entry
pub returns-clause-passed : goal.returns-clause-passed
returns-clause-passed g c =
    -- t are the tables before, u and d the tables and the trouble after the release, which promises `released`
    let released = c.in_ok-release_overdue.ensures in
    let texts = c.args.book.now in
    let moment = c.args.moment in
    let t = c.args.tables.now in
    let u = c.release_overdue.new.tables in
    let d = c.release_overdue.new.troubled in
    -- the hearers are still to hear the event after the release
    let hearing = c.in-Some.hearing.now in
    let watched = rw c.in-Some.is at c.requires.watched in
    let hear = hear_still texts t u moment hearing released.keys (c.requires.hear c.in-Some.hearing c.in-Some.is) in
    on_ok_weaker c.hear_each.result (λ heard p es e times late now told h.
    let (numbers, hears, each_heard) = heard in
    let told_it = subst (λ ks. AreTold texts ks moment (Some hearing) e) (sym released.keys) (rw c.in-Some.is at told) in
    -- each transaction is passing the entry after the release
    let mid = released.released texts p es e (each hearing.concerned) times late now c.requires.may watched h in
    let may = released.may texts c.requires.may in
    let now_watched = watched_more (each hearing.concerned) numbers u d hears.named (released.watched (each hearing.concerned) watched) in
    -- the event concerns the hearers, and the others can wait until its moment
    each_heard p es e (released.times ∙ times) (subst (λ m. newest_moment es ≤ m) (sym hear.at) late) hears.apart
    (event_concerns texts p es e moment late now u d may released.none mid hearing told_it hear numbers hears now_watched)
    (event_waits texts p es e moment late now u d may released.none mid hearing told_it hear numbers hears now_watched)) c.hear_each.ensures.heard
