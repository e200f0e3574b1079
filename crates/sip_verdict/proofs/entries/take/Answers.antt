-- s is what stands before the entry, and e the entry. In answers on histories e is what is observed of it, and `told` says that they were right before it.
-- The entry is one that no transaction hears (Unheard), has a fault, is a restart, or is heard by some; `passed` is what the passing promises.
-- Of what is kept of a heard message, .4 says that the book is as before, or has the message too.
use Rattle.std.proofs.Common.{◌+◌, None, [], ◌||◌, length, ap, inl, refl, sym, ◌∙◌, subst, arith}
use Rattle.std.proofs.lemmas.Option.{same_Some}
use Rattle.sip_machine.specs.Texts.{Keeps}
use Rattle.sip_log.specs.Told.{item}
use Rattle.sip_verdict.specs.inner.Concerned.{each}
use Rattle.sip_verdict.specs.inner.TablesTracking.{is_among, HaveNumbers, MayHear, MayTake}
use Rattle.sip_verdict.specs.inner.Surveying.{AreWatched, ArePassing}
use Rattle.sip_verdict.proofs.judges.StandingLemmas.{are_given, grown_may, few_keys, may_hear, may_next}
use Rattle.sip_verdict.proofs.sweeps.NewestLemmas.{known_unnamed, dropped_take}
use Rattle.sip_verdict.proofs.tables.TablesTouching.{have_numbers, touches_may}
use Rattle.sip_verdict.proofs.verdicts.MessageUnique.{observes_one}
use Rattle.sip_verdict.proofs.surveys.kept.Histories.{silent_histories, restart_histories, heard_histories, message_says, touched_low}
use Rattle.sip_verdict.proofs.surveys.passing.Taken.{unheard_taken, fault_taken, restart_taken, heard_taken, dropped_passing, watched_touched}
use Rattle.sip_verdict.proofs.entries.take.Goals as goal

-- the grown book and the touched tables may pass the entry
pub pass_each-requires-in-Heard-clause-may : goal.pass_each-requires-in-Heard-clause-may
pass_each-requires-in-Heard-clause-may g c =
    let s = c.args.standing.now in
    let e = c.args.entry.now in
    touches_may c.observe.new.book e.moment (each c.in-Heard.concerned) (each c.in_ok-concerned-in-Heard.concerned) s.tables c.touch_each.new.tables
    (grown_may s.book c.observe.new.book e.number e.bytes.items (rw c.in-Heard.is at c.in_ok-told.ensures.kept).4 s.tables e.moment c.requires.may.passes) c.in_ok-concerned-in-Heard.ensures.touched

-- the transactions that are to hear the event have their sets, at its moment
pub pass_each-requires-in-Heard-clause-hear : goal.pass_each-requires-in-Heard-clause-hear
pass_each-requires-in-Heard-clause-hear g c =
    let e = c.args.entry.now in
    -- the event fits the book (.0), is at the entry's moment (.1), concerns keys that all differ (.2), and is not one for all keys (.3)
    let is_heard = rw c.in-Heard.is at c.in_ok-told.ensures.heard in
    λ h is. subst (MayHear c.observe.new.book c.touch_each.new.tables e.moment) (ap (λ b. b.now) (same_Some _ h is))
    (may_hear c.observe.new.book e.moment c.in-Heard.event c.in-Heard.concerned c.in_ok-concerned-in-Heard.concerned c.args.standing.now.tables c.touch_each.new.tables c.in_ok-concerned-in-Heard.ensures.touched
    is_heard.0 is_heard.1 is_heard.2 (c.in_ok-concerned-in-Heard.ensures.same ∙ is_heard.3))

-- after the keys were looked up, only the hearers may lack a last moment on record
pub pass_each-requires-in-Heard-clause-watched : goal.pass_each-requires-in-Heard-clause-watched
pass_each-requires-in-Heard-clause-watched g c =
    let grown = c.in_ok-grow-in-Heard.ensures.deaf in
    watched_touched (each c.in-Heard.concerned) (each c.in_ok-concerned-in-Heard.concerned) c.args.standing.now.tables c.touch_each.new.tables c.args.troubled.now c.grow.new.self grown.0
    c.in_ok-concerned-in-Heard.ensures.touched c.requires.may.passes.long c.requires.watched grown.1 grown.2 (c.in_ok-grow-in-Heard.ensures.long ∙ c.len.ensures)

-- the keys that were touched have histories or come next
pub note_each-requires : goal.note_each-requires
note_each-requires g c =
    touched_low (each c.in-Heard.concerned) (each c.in_ok-concerned-in-Heard.concerned) c.args.standing.now.tables c.touch_each.new.tables c.in_ok-concerned-in-Heard.ensures.touched

-- the hearers have numbers of keys
pub drop_unnamed-requires-clause-given : goal.drop_unnamed-requires-clause-given
drop_unnamed-requires-clause-given g c =
    let keys = each c.in-Heard.concerned in
    let numbers = each c.in_ok-concerned-in-Heard.concerned in
    are_given c.pass_each-in-Heard.new.tables numbers keys
    (subst (λ all. HaveNumbers all numbers keys) (sym c.in_ok-pass_each-in-Heard.ensures.keys)
    (have_numbers keys numbers c.args.standing.now.tables c.touch_each.new.tables c.in_ok-concerned-in-Heard.ensures.touched))

-- only sets of the hearers may name the newest message
pub drop_unnamed-requires-clause-others : goal.drop_unnamed-requires-clause-others
drop_unnamed-requires-clause-others g c some n set among at =
    let s = c.args.standing.now in
    let e = c.args.entry.now in
    let numbers = each c.in_ok-concerned-in-Heard.concerned in
    let may = touches_may s.book e.moment (each c.in-Heard.concerned) numbers s.tables c.touch_each.new.tables c.requires.may.passes c.in_ok-concerned-in-Heard.ensures.touched in
    -- such a set is as before the entry, and the book had all that it names, and not this message
    known_unnamed s.book e.number c.requires.may.numbered set (c.in_ok-pass_each-in-Heard.ensures.others s.book n set may (ap (λ b. b || is_among numbers (n + 1)) some ∙ among) at)

-- an entry that no transaction hears leaves the histories right
pub returns-in_ok-pass_each-in-Unheard-clause-histories : goal.returns-in_ok-pass_each-in-Unheard-clause-histories
returns-in_ok-pass_each-in-Unheard-clause-histories g c = λ es e told keys counts seen.
    let (f, f_seen, (fine, at, none)) = (rw c.in-Unheard.is at c.in_ok-told.ensures.observed) es in
    silent_histories es e c.args.histories.now (ap (λ o. o.keys) (observes_one es (item c.args.entry.now) e f seen f_seen) ∙ none) told

-- an entry with a fault concerns no key, so the histories stay
pub returns-in_ok-pass_each-in-Fault-clause-histories : goal.returns-in_ok-pass_each-in-Fault-clause-histories
returns-in_ok-pass_each-in-Fault-clause-histories g c = λ es e told keys counts seen.
    let (f, f_seen, is) = (rw c.in-Fault.is at c.in_ok-told.ensures.observed) es in
    silent_histories es e c.args.histories.now (ap (λ o. o.keys) (observes_one es (item c.args.entry.now) e f seen f_seen ∙ is)) told

-- a restart is written into the histories once, for all transactions
pub returns-in_ok-pass_each-in-Restart-clause-histories : goal.returns-in_ok-pass_each-in-Restart-clause-histories
returns-in_ok-pass_each-in-Restart-clause-histories g c = λ es e told keys counts seen.
    let b = c.args.histories.now in
    let number = c.args.entry.now.number in
    let (f, f_seen, is) = (rw c.in-Restart.is at c.in_ok-told.ensures.observed) es in
    -- the restart becomes the last entry of each transaction, by one number for all
    restart_histories es e b (record { each = b.each; restart = number }) number
    (ap (λ o. o.keys) (observes_one es (item c.args.entry.now) e f seen f_seen ∙ is)) counts refl refl told

-- the histories of the transactions that hear the message have the entry as their last one
pub returns-in_ok-pass_each-in-Heard-clause-histories : goal.returns-in_ok-pass_each-in-Heard-clause-histories
returns-in_ok-pass_each-in-Heard-clause-histories g c = λ es e told t_keys counts seen.
    let s = c.args.standing.now in
    let entry = c.args.entry.now in
    let kept = rw c.in-Heard.is at c.in_ok-told.ensures.kept in
    let noted = c.in_ok-note_each-in-Heard.ensures in
    -- f is what is observed of the entry, which is the same as e
    let (f, f_seen, f_is) = (rw c.in-Heard.is at c.in_ok-told.ensures.observed) es in
    let is = observes_one es (item entry) e f seen f_seen ∙ f_is in
    -- each key that the message concerns has its history, which was written on or begun
    heard_histories es e c.args.histories.now c.note_each.new.self entry.number entry.bytes.items s.tables c.touch_each.new.tables (each c.in-Heard.concerned) (each c.in_ok-concerned-in-Heard.concerned)
    told t_keys c.requires.may.passes.long counts c.in_ok-concerned-in-Heard.ensures.touched c.known-in-Heard.ensures.unique noted.noted c.note_each.ensures.restart (ap (λ o. o.keys) is)
    (message_says es (item entry) e kept.0 seen) (ap (λ o. o.event.text) is ∙ kept.3)

-- after an entry that no transaction hears, the next one may be taken
pub returns-in_ok-pass_each-in-Unheard-clause-may : goal.returns-in_ok-pass_each-in-Unheard-clause-may
returns-in_ok-pass_each-in-Unheard-clause-may g c =
    let s = c.args.standing.now in
    let e = c.args.entry.now in
    let passed = c.in_ok-pass_each-in-Unheard.ensures in
    -- no message came into the book and no key into the tables, so that the limits hold for the next number too
    may_next None s.book c.observe.new.book c.observe.new.book s.tables s.tables c.pass_each.new.tables e.number e.moment e.bytes.items c.requires.may
    (inl (rw c.in-Unheard.is at c.in_ok-told.ensures.kept)) (omega arith) passed.keys refl passed.may passed.watched.recorded

-- an entry that no transaction hears is taken
pub returns-in_ok-pass_each-in-Unheard-clause-taken : goal.returns-in_ok-pass_each-in-Unheard-clause-taken
returns-in_ok-pass_each-in-Unheard-clause-taken g c = λ es fresh tracks late.
    let s = c.args.standing.now in
    let e = c.args.entry.now in
    unheard_taken s.book c.observe.new.book e.number e.bytes.items (inl (rw c.in-Unheard.is at c.in_ok-told.ensures.kept)) (item e) e.moment refl s.tables c.pass_each.new.tables c.args.troubled.now c.pass_each.new.troubled
    c.requires.watched.long c.requires.may.passes.long fresh c.in_ok-pass_each-in-Unheard.ensures.keys (rw c.in-Unheard.is at c.in_ok-told.ensures.observed) c.in_ok-pass_each-in-Unheard.ensures.passed es tracks late

-- after an entry whose message has a fault, the next one may be taken
pub returns-in_ok-pass_each-in-Fault-clause-may : goal.returns-in_ok-pass_each-in-Fault-clause-may
returns-in_ok-pass_each-in-Fault-clause-may g c =
    let s = c.args.standing.now in
    let e = c.args.entry.now in
    let passed = c.in_ok-pass_each-in-Fault.ensures in
    -- no message came into the book and no key into the tables, so that the limits hold for the next number too
    may_next None s.book c.observe.new.book c.observe.new.book s.tables s.tables c.pass_each-in-Fault.new.tables e.number e.moment e.bytes.items c.requires.may
    (inl (rw c.in-Fault.is at c.in_ok-told.ensures.kept)) (omega arith) passed.keys refl passed.may passed.watched.recorded

-- an entry whose message has a fault is taken
pub returns-in_ok-pass_each-in-Fault-clause-taken : goal.returns-in_ok-pass_each-in-Fault-clause-taken
returns-in_ok-pass_each-in-Fault-clause-taken g c = λ es fresh tracks late.
    let s = c.args.standing.now in
    let e = c.args.entry.now in
    fault_taken s.book c.observe.new.book e.number e.bytes.items (inl (rw c.in-Fault.is at c.in_ok-told.ensures.kept)) (item e) e.moment refl s.tables c.pass_each-in-Fault.new.tables c.args.troubled.now c.pass_each-in-Fault.new.troubled
    c.requires.watched.long c.requires.may.passes.long fresh c.in_ok-pass_each-in-Fault.ensures.keys c.in-Fault.fault (rw c.in-Fault.is at c.in_ok-told.ensures.observed) c.in_ok-pass_each-in-Fault.ensures.passed es tracks late

-- after a restart the next entry may be taken
pub returns-in_ok-pass_each-in-Restart-clause-may : goal.returns-in_ok-pass_each-in-Restart-clause-may
returns-in_ok-pass_each-in-Restart-clause-may g c =
    let s = c.args.standing.now in
    let e = c.args.entry.now in
    let passed = c.in_ok-pass_each-in-Restart.ensures in
    -- no message came into the book and no key into the tables, so that the limits hold for the next number too
    may_next None s.book c.observe.new.book c.observe.new.book s.tables s.tables c.pass_each-in-Restart.new.tables e.number e.moment e.bytes.items c.requires.may
    (inl (rw c.in-Restart.is at c.in_ok-told.ensures.kept).0) (omega arith) passed.keys refl passed.may passed.watched.recorded

-- a restart is taken
pub returns-in_ok-pass_each-in-Restart-clause-taken : goal.returns-in_ok-pass_each-in-Restart-clause-taken
returns-in_ok-pass_each-in-Restart-clause-taken g c = λ es fresh tracks late.
    -- s is what stands before the restart e, whose book did not change
    let s = c.args.standing.now in
    let e = c.args.entry.now in
    let same = (rw c.in-Restart.is at c.in_ok-told.ensures.kept).0 in
    -- the event of a restart has the number 0, under which the book has no message
    restart_taken s.book c.observe.new.book e.number e.bytes.items (inl same) (item e) e.moment refl s.tables c.pass_each-in-Restart.new.tables c.args.troubled.now c.pass_each-in-Restart.new.troubled
    c.requires.watched.long c.requires.may.passes.long fresh c.in_ok-pass_each-in-Restart.ensures.keys c.restart-event.result c.restart-event.ensures (λ n keeps. c.requires.may.some n (subst (λ b. Keeps b n) same keeps)) (rw c.in-Restart.is at c.in_ok-told.ensures.observed) c.in_ok-pass_each-in-Restart.ensures.passed es tracks late

-- after transactions heard the message, and it was dropped if no state names it, the next entry may be taken
pub returns-in_ok-pass_each-in-Heard-clause-may : goal.returns-in_ok-pass_each-in-Heard-clause-may
returns-in_ok-pass_each-in-Heard-clause-may g c =
    let s = c.args.standing.now in
    let e = c.args.entry.now in
    let mid = c.observe.new.book in
    let t = c.pass_each-in-Heard.new.tables in
    let new = c.drop_unnamed.new.self in
    let passed = c.in_ok-pass_each-in-Heard.ensures in
    -- the book may lack the newest message, which no set names
    subst (λ x. MayTake new.book x (e.number + 1) e.moment) (sym c.drop_unnamed.ensures.tables)
    (dropped_take e.number mid new.book t (e.number + 1) e.moment c.drop_unnamed.ensures.book
    (may_next None s.book mid mid s.tables c.touch_each.new.tables t e.number e.moment e.bytes.items c.requires.may
    (rw c.in-Heard.is at c.in_ok-told.ensures.kept).4
    (few_keys c.in-Heard.concerned (each c.in_ok-concerned-in-Heard.concerned) s.tables c.touch_each.new.tables c.in_ok-concerned-in-Heard.ensures.touched)
    passed.keys refl passed.may passed.watched.recorded))

-- the transactions are watched, also where the newest message was dropped
pub returns-in_ok-pass_each-in-Heard-clause-watched : goal.returns-in_ok-pass_each-in-Heard-clause-watched
returns-in_ok-pass_each-in-Heard-clause-watched g c =
    subst (λ x. AreWatched [] x c.pass_each-in-Heard.new.troubled) (sym c.drop_unnamed.ensures.tables) c.in_ok-pass_each-in-Heard.ensures.watched

-- an entry whose message transactions hear is taken: the tables track it too, also where the message was dropped since no state names it
pub returns-in_ok-pass_each-in-Heard-clause-taken : goal.returns-in_ok-pass_each-in-Heard-clause-taken
returns-in_ok-pass_each-in-Heard-clause-taken g c = λ es fresh tracks late.
    let s = c.args.standing.now in
    let e = c.args.entry.now in
    let mid = c.observe.new.book in
    let t = c.pass_each-in-Heard.new.tables in
    let b = c.pass_each-in-Heard.new.troubled in
    let new = c.drop_unnamed.new.self in
    let dropped = c.drop_unnamed.ensures in
    -- the new keys have flags, all of them false, and the entry concerns some keys
    let grown = c.in_ok-grow-in-Heard.ensures in
    let is_heard = rw c.in-Heard.is at c.in_ok-told.ensures.heard in
    -- f is what is observed of the entry, and `seen` says that it is seen so. It has no fault and its moment is `now`; the keys are those so far
    -- and its own, and each transaction is passing it.
    let (f, seen, fine, now, keys, passing) =
    heard_taken s.book mid e.number e.bytes.items (rw c.in-Heard.is at c.in_ok-told.ensures.kept).4 (item e) e.moment refl c.in-Heard.event c.in-Heard.concerned c.in_ok-concerned-in-Heard.concerned
    s.tables c.touch_each.new.tables t c.args.troubled.now c.grow.new.self b grown.deaf.0
    c.requires.watched.long c.requires.may.passes.long fresh grown.deaf.1 grown.deaf.2 grown.broken grown.wide c.in_ok-concerned-in-Heard.ensures.touched c.known-in-Heard.ensures.unique
    c.in_ok-pass_each-in-Heard.ensures.keys is_heard.1 (c.in_ok-concerned-in-Heard.ensures.same ∙ is_heard.3) (rw c.in-Heard.is at c.in_ok-told.ensures.observed) c.in_ok-pass_each-in-Heard.ensures.passed es tracks late in (
      f,
      seen,
      fine,
      now,
      -- after the message was dropped the tables are the same, and each transaction is still passing the entry
      ap (λ x. x.keys) dropped.tables ∙ keys,
      subst (λ x. ArePassing new.book s.tables.times es f (is_among []) x b) (sym dropped.tables) (dropped_passing e.number mid new.book s.tables.times es f t b dropped.book passing),
    )

-- the entry brings no new key
pub returns-in_ok-pass_each-in-Unheard-clause-keys : goal.returns-in_ok-pass_each-in-Unheard-clause-keys
returns-in_ok-pass_each-in-Unheard-clause-keys g c = let same = ap length c.in_ok-pass_each-in-Unheard.ensures.keys in omega arith

-- the entry brings no new key
pub returns-in_ok-pass_each-in-Fault-clause-keys : goal.returns-in_ok-pass_each-in-Fault-clause-keys
returns-in_ok-pass_each-in-Fault-clause-keys g c = let same = ap length c.in_ok-pass_each-in-Fault.ensures.keys in omega arith

-- the entry brings no new key
pub returns-in_ok-pass_each-in-Restart-clause-keys : goal.returns-in_ok-pass_each-in-Restart-clause-keys
returns-in_ok-pass_each-in-Restart-clause-keys g c = let same = ap length c.in_ok-pass_each-in-Restart.ensures.keys in omega arith

-- the entry brings at most two new keys
pub returns-in_ok-pass_each-in-Heard-clause-keys : goal.returns-in_ok-pass_each-in-Heard-clause-keys
returns-in_ok-pass_each-in-Heard-clause-keys g c =
    let few = few_keys c.in-Heard.concerned (each c.in_ok-concerned-in-Heard.concerned) c.args.standing.now.tables c.touch_each.new.tables c.in_ok-concerned-in-Heard.ensures.touched in
    let same = ap length (ap (λ x. x.keys) c.drop_unnamed.ensures.tables ∙ c.in_ok-pass_each-in-Heard.ensures.keys) in
    omega arith
