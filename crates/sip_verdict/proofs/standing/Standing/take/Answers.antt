-- s is what stands before the entry, and e the entry: it is a restart, is heard by no transaction (Unheard), has a fault, or is heard by some.
-- `passed` is what the passing answers and promises, and `kept` says whether a message came into the book.
-- Of what is kept of a heard message, .4 says that the book is as before, or has the message too.
use Rattle.std.proofs.Common.{[], ◌||◌, Some, None, ◌∙◌, ap, inl, length, refl, arith, subst, sym}
use Rattle.std.proofs.lemmas.Bool.{false≢true}
use Rattle.std.proofs.lemmas.Option.{same_Some}
use Rattle.sip_machine.specs.Texts.{Keeps}
use Rattle.sip_log.specs.Told.{item}
use Rattle.sip_standard.specs.Observation.{fault_observation}
use Rattle.sip_standard.specs.VerdictOf.{Sees}
use Rattle.sip_verdict.specs.inner.Numbering.{StaysNumbered}
use Rattle.sip_verdict.specs.inner.TablesTracking.{is_among, HaveNumbers, MayHear}
use Rattle.sip_verdict.specs.inner.Concerned.{each}
use Rattle.sip_verdict.proofs.listings.NumberingLemmas.{numbered_none, numbered_heard, unless_trouble}
use Rattle.sip_verdict.proofs.judges.StandingLemmas.{listed_each, grown_may, may_restart, restart_judged, touched_recorded, few_keys, are_given, may_hear, may_next, unheard_judged, heard_judged}
use Rattle.sip_verdict.proofs.tables.TablesTouching.{touches_may, have_numbers}
use Rattle.sip_verdict.specs.declared.concerned.Concerned.TheVariants as concerned
use Rattle.sip_verdict.proofs.sweeps.NewestLemmas.{others_known}
use Rattle.sip_verdict.proofs.standing.Standing.take.Goals as goal

-- the tables may pass the restart, since the book has all that they name
pub pass-requires-in-Restart-clause-may : goal.pass-requires-in-Restart-clause-may
pass-requires-in-Restart-clause-may g c =
    let s = c.args.self.now in
    let e = c.args.entry.now in
    grown_may s.book c.observe.new.book e.number e.bytes.items (inl (rw c.in-Restart.is at c.in_ok-told.ensures.kept).0) s.tables e.moment c.requires.may.passes

-- at a restart each transaction may hear the event
pub pass-requires-in-Restart-clause-hear : goal.pass-requires-in-Restart-clause-hear
pass-requires-in-Restart-clause-hear g c =
    let e = c.args.entry.now in
    λ h is. subst (MayHear c.observe.new.book c.args.self.now.tables e.moment) (ap (λ b. b.now) (same_Some _ h is))
    (may_restart c.observe.new.book e.moment c.restart-event.result c.args.self.now.tables c.restart-event.ensures c.requires.limit)

-- each last moment is on record as before
pub pass-requires-in-Restart-clause-recorded : goal.pass-requires-in-Restart-clause-recorded
pass-requires-in-Restart-clause-recorded g c = c.requires.may.recorded

-- after a restart the next entry may be taken
pub returns-in_ok-verdict-in-Restart-clause-may : goal.returns-in_ok-verdict-in-Restart-clause-may
returns-in_ok-verdict-in-Restart-clause-may g c =
    let s = c.args.self.now in
    let e = c.args.entry.now in
    let passed = c.in_ok-verdict-in-Restart in
    -- no message came into the book and no key into the tables, so that the limits hold for the next number too
    may_next passed.verdict s.book c.observe.new.book c.pass-in-Restart.new.self.book s.tables s.tables c.pass-in-Restart.new.self.tables e.number e.moment e.bytes.items c.requires.may
    (inl (rw c.in-Restart.is at c.in_ok-told.ensures.kept).0) (omega arith) passed.ensures.keys passed.ensures.book passed.ensures.may passed.ensures.recorded

-- a restart has no message, so the numbers of the book stay those of the entries
pub returns-in_ok-verdict-in-Restart-clause-numbered : goal.returns-in_ok-verdict-in-Restart-clause-numbered
returns-in_ok-verdict-in-Restart-clause-numbered g c =
    let s = c.args.self.now in
    let e = c.args.entry.now in
    let kept = rw c.in-Restart.is at c.in_ok-told.ensures.kept in
    let new = c.pass-in-Restart.new.self.book in
    -- nothing is asked where there is a verdict; else the entry has no message, and the book is as it was
    unless_trouble (StaysNumbered (item e) e.number s.book new) c.in_ok-verdict-in-Restart.verdict
    (numbered_none (item e) e.number s.book new kept.1 (c.in_ok-verdict-in-Restart.ensures.book ∙ kept.0))

-- the verdict after a restart is that of what is observed of the entry
pub returns-in_ok-verdict-in-Restart-clause-judged : goal.returns-in_ok-verdict-in-Restart-clause-judged
returns-in_ok-verdict-in-Restart-clause-judged g c =
    -- s is what stands before the restart e, whose book did not change
    let s = c.args.self.now in
    let e = c.args.entry.now in
    let same = (rw c.in-Restart.is at c.in_ok-told.ensures.kept).0 in
    restart_judged c.in_ok-verdict-in-Restart.verdict s.book c.observe.new.book c.pass-in-Restart.new.self.book e.number e.bytes.items (inl same) (item e) e.moment e.number
    c.restart-event.result s.tables c.pass-in-Restart.new.self.tables c.requires.may.passes.long c.known-in-Restart.ensures.unique c.in_ok-verdict-in-Restart.ensures.keys c.restart-event.ensures
    (λ n keeps. c.requires.may.some n (subst (λ b. Keeps b n) same keeps)) refl (rw c.in-Restart.is at c.in_ok-told.ensures.observed) c.in_ok-verdict-in-Restart.ensures.judged

-- after the keys were looked up, the tables may pass the moment
pub pass-requires-in-Heard-clause-may : goal.pass-requires-in-Heard-clause-may
pass-requires-in-Heard-clause-may g c =
    let s = c.args.self.now in
    let e = c.args.entry.now in
    touches_may c.observe.new.book e.moment (each c.in-Heard.concerned) (each c.in_ok-concerned-in-Heard.concerned) s.tables c.touch_each.new.tables
    (grown_may s.book c.observe.new.book e.number e.bytes.items (rw c.in-Heard.is at c.in_ok-told.ensures.kept).4 s.tables e.moment c.requires.may.passes) c.in_ok-concerned-in-Heard.ensures.touched

-- the transactions that are to hear the event have their sets, at its moment
pub pass-requires-in-Heard-clause-hear : goal.pass-requires-in-Heard-clause-hear
pass-requires-in-Heard-clause-hear g c =
    let e = c.args.entry.now in
    -- the event fits the book (.0), is at the entry's moment (.1), concerns keys that all differ (.2), and is not one for all keys (.3)
    let is_heard = rw c.in-Heard.is at c.in_ok-told.ensures.heard in
    λ h is. subst (MayHear c.observe.new.book c.touch_each.new.tables e.moment) (ap (λ b. b.now) (same_Some _ h is))
    (may_hear c.observe.new.book e.moment c.in-Heard.event c.in-Heard.concerned c.in_ok-concerned-in-Heard.concerned c.args.self.now.tables c.touch_each.new.tables c.in_ok-concerned-in-Heard.ensures.touched
    is_heard.0 is_heard.1 is_heard.2 (c.in_ok-concerned-in-Heard.ensures.same ∙ is_heard.3))

-- after the keys were looked up, each last moment is on record but those of the transactions that the entry concerns
pub pass-requires-in-Heard-clause-recorded : goal.pass-requires-in-Heard-clause-recorded
pass-requires-in-Heard-clause-recorded g c =
    touched_recorded (each c.in-Heard.concerned) (each c.in_ok-concerned-in-Heard.concerned) c.args.self.now.tables c.touch_each.new.tables c.in_ok-concerned-in-Heard.ensures.touched
    c.requires.may.passes.long c.requires.may.recorded

-- after an entry that no transaction hears, the next entry may come
pub returns-in_ok-verdict-in-Unheard-clause-may : goal.returns-in_ok-verdict-in-Unheard-clause-may
returns-in_ok-verdict-in-Unheard-clause-may g c =
    let s = c.args.self.now in
    let e = c.args.entry.now in
    let passed = c.in_ok-verdict-in-Unheard in
    -- no message came into the book and no key into the tables, so that the limits hold for the next number too
    may_next passed.verdict s.book c.observe.new.book c.pass.new.self.book s.tables s.tables c.pass.new.self.tables e.number e.moment e.bytes.items c.requires.may
    (inl (rw c.in-Unheard.is at c.in_ok-told.ensures.kept)) (omega arith) passed.ensures.keys passed.ensures.book passed.ensures.may passed.ensures.recorded

-- where no transaction hears the entry, the book is as it was, and its numbers stay those of the entries
pub returns-in_ok-verdict-in-Unheard-clause-numbered : goal.returns-in_ok-verdict-in-Unheard-clause-numbered
returns-in_ok-verdict-in-Unheard-clause-numbered g c =
    -- s is what stands before the entry e; nothing is heard of it, and the book stays
    let s = c.args.self.now in
    let e = c.args.entry.now in
    let kept = rw c.in-Unheard.is at c.in_ok-told.ensures.kept in
    let told = (rw c.in-Unheard.is at c.in_ok-told.ensures.observed) [] in
    let new = c.pass.new.self.book in
    -- nothing is asked where there is a verdict; else the entry concerns no key, and the book is as it was
    unless_trouble (StaysNumbered (item e) e.number s.book new) c.in_ok-verdict-in-Unheard.verdict
    (numbered_none (item e) e.number s.book new (told.0, told.1, told.2.2) (c.in_ok-verdict-in-Unheard.ensures.book ∙ kept))

-- an entry that no transaction hears is judged by those that are overdue
pub returns-in_ok-verdict-in-Unheard-clause-judged : goal.returns-in_ok-verdict-in-Unheard-clause-judged
returns-in_ok-verdict-in-Unheard-clause-judged g c =
    let s = c.args.self.now in
    let e = c.args.entry.now in
    unheard_judged c.in_ok-verdict-in-Unheard.verdict s.book c.observe.new.book c.pass.new.self.book e.number e.bytes.items (inl (rw c.in-Unheard.is at c.in_ok-told.ensures.kept)) (item e) e.moment e.number
    s.tables c.pass.new.self.tables refl (rw c.in-Unheard.is at c.in_ok-told.ensures.observed) c.in_ok-verdict-in-Unheard.ensures.judged

-- where the message has a fault, the verdict is that it is malformed
pub returns-in-Fault-clause-judged : goal.returns-in-Fault-clause-judged
returns-in-Fault-clause-judged g c = λ es tracks counts newest.
    let (e, seen, is) = (rw c.in-Fault.is at c.in_ok-told.ensures.observed) es in (
      fault_observation (item c.args.entry.now) c.in-Fault.fault,
      subst (Sees es (item c.args.entry.now)) is seen,
      (counts, refl),
      -- no key has a number, since the entry concerns none
      tt,
    )

-- after transactions heard the message, the next entry may be taken
pub returns-in_ok-verdict-in-Heard-clause-may : goal.returns-in_ok-verdict-in-Heard-clause-may
returns-in_ok-verdict-in-Heard-clause-may g c =
    let s = c.args.self.now in
    let e = c.args.entry.now in
    let passed = c.in_ok-verdict-in-Heard in
    -- the book has at most one message more, that of the entry, and the tables have at most two keys more
    may_next passed.verdict s.book c.observe.new.book c.pass-in-Heard.new.self.book s.tables c.touch_each.new.tables c.pass-in-Heard.new.self.tables e.number e.moment e.bytes.items c.requires.may
    (rw c.in-Heard.is at c.in_ok-told.ensures.kept).4
    (few_keys c.in-Heard.concerned (each c.in_ok-concerned-in-Heard.concerned) s.tables c.touch_each.new.tables c.in_ok-concerned-in-Heard.ensures.touched)
    passed.ensures.keys passed.ensures.book passed.ensures.may passed.ensures.recorded

-- the message that was kept has the number of the first entry with its bytes
pub returns-in_ok-verdict-in-Heard-clause-numbered : goal.returns-in_ok-verdict-in-Heard-clause-numbered
returns-in_ok-verdict-in-Heard-clause-numbered g c =
    -- s is what stands before the entry e; the book is `mid` with its message, and `new` after it has passed
    let s = c.args.self.now in
    let e = c.args.entry.now in
    let mid = c.observe.new.book in
    let kept = rw c.in-Heard.is at c.in_ok-told.ensures.kept in
    let new = c.pass-in-Heard.new.self.book in
    -- the book did not change as the entry passed, unless there is a verdict
    unless_trouble (StaysNumbered (item e) e.number s.book new) c.in_ok-verdict-in-Heard.verdict
    (subst (StaysNumbered (item e) e.number s.book) (sym c.in_ok-verdict-in-Heard.ensures.book)
    (numbered_heard (item e) e.number c.in-Heard.event.number s.book mid kept.0 kept.1 kept.2 kept.3 c.requires.may.numbered c.known.ensures kept.4))

-- the tables have the numbers of the keys that the entry concerns
pub returns-in_ok-verdict-in-Heard-clause-given : goal.returns-in_ok-verdict-in-Heard-clause-given
returns-in_ok-verdict-in-Heard-clause-given g c =
    let keys = each c.in-Heard.concerned in
    let numbers = each c.in_ok-concerned-in-Heard.concerned in
    are_given c.pass-in-Heard.new.self.tables numbers keys
    (subst (λ all. HaveNumbers all numbers keys) (sym c.in_ok-verdict-in-Heard.ensures.keys)
    (have_numbers keys numbers c.args.self.now.tables c.touch_each.new.tables c.in_ok-concerned-in-Heard.ensures.touched))

-- where transactions hear the message, the verdict is that of what is observed of the entry
pub returns-in_ok-verdict-in-Heard-clause-judged : goal.returns-in_ok-verdict-in-Heard-clause-judged
returns-in_ok-verdict-in-Heard-clause-judged g c = λ es tracks counts newest.
    let s = c.args.self.now in
    let e = c.args.entry.now in
    let new = c.pass-in-Heard.new.self in
    -- the entry concerns some keys, and the verdict is that of the transactions that hear it
    let some = c.in_ok-concerned-in-Heard.ensures.same ∙ (rw c.in-Heard.is at c.in_ok-told.ensures.heard).3 in
    let h = heard_judged c.in_ok-verdict-in-Heard.verdict s.book c.observe.new.book new.book e.number e.bytes.items (rw c.in-Heard.is at c.in_ok-told.ensures.kept).4 (item e) e.moment e.number
    c.in-Heard.event c.in-Heard.concerned c.in_ok-concerned-in-Heard.concerned s.tables c.touch_each.new.tables new.tables
    c.requires.may.passes.long c.in_ok-concerned-in-Heard.ensures.touched c.known-in-Heard.ensures.unique c.in_ok-verdict-in-Heard.ensures.keys (rw c.in-Heard.is at c.in_ok-told.ensures.heard).1
    some (rw c.in-Heard.is at c.in_ok-told.ensures.observed) c.in_ok-verdict-in-Heard.ensures.judged es tracks counts newest in (
      -- what is seen of the entry and judged is as h says, and the keys have the numbers that are listed
      h.0,
      h.1,
      h.2,
      subst (λ ns. HaveNumbers new.tables.keys ns h.0.keys) (sym (listed_each (length new.tables.keys) c.in_ok-concerned-in-Heard.concerned some)) h.3,
    )

-- no transaction hears the entry, so that all sets name only messages that the book had before it
pub returns-in_ok-verdict-in-Unheard-clause-others : goal.returns-in_ok-verdict-in-Unheard-clause-others
returns-in_ok-verdict-in-Unheard-clause-others g c =
    let s = c.args.self.now in
    others_known s.book concerned.None None s.tables c.pass.new.self.tables c.requires.may.passes.known c.in_ok-verdict-in-Unheard.ensures.others (λ n some among. refl)

-- the tables are as before, and their sets name only messages that the book had
pub returns-in-Fault-clause-others : goal.returns-in-Fault-clause-others
returns-in-Fault-clause-others g c =
    let s = c.args.self.now in
    others_known s.book concerned.None None s.tables s.tables c.requires.may.passes.known (λ n none. refl) (λ n some among. refl)

-- a restart concerns all transactions, so there are no others
pub returns-in_ok-verdict-in-Restart-clause-others : goal.returns-in_ok-verdict-in-Restart-clause-others
returns-in_ok-verdict-in-Restart-clause-others g c some = absurd (false≢true (sym some))

-- the sets of the keys that the entry does not concern name only messages that the book had before it
pub returns-in_ok-verdict-in-Heard-clause-others : goal.returns-in_ok-verdict-in-Heard-clause-others
returns-in_ok-verdict-in-Heard-clause-others g c =
    let s = c.args.self.now in
    let u = c.touch_each.new.tables in
    let numbers = c.in_ok-concerned-in-Heard.concerned in
    -- after the keys were looked up, the book before the entry still has all that the sets name
    let may = touches_may s.book c.args.entry.now.moment (each c.in-Heard.concerned) (each numbers) s.tables u c.requires.may.passes c.in_ok-concerned-in-Heard.ensures.touched in
    others_known s.book numbers (Some (record { event = c.in-Heard.event; concerned = numbers })) u c.pass-in-Heard.new.self.tables may.known c.in_ok-verdict-in-Heard.ensures.others (λ n some among. ap (λ b. b || is_among (each numbers) n) some ∙ among)
