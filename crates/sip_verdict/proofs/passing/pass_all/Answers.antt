-- `heard` is what the hearing promises: .0 that the tables may pass on, .1.0 the numbers of the hearers, .1.1 that they are those of the event, and .1.2 that
-- each has heard it.
use Rattle.std.proofs.Common.{[], ◌+◌, inl, sym, refl, subst, arith}
use Rattle.std.proofs.lemmas.Bool.{false≢true}
use Rattle.std.proofs.lemmas.Result.{IfOk-weaker}
use Rattle.sip_verdict.specs.inner.Tracking.{IsOutcome}
use Rattle.sip_verdict.specs.inner.TablesTracking.{key_keeping, transactions_of, MayPass, MayHear, HearsEach}
use Rattle.sip_verdict.specs.inner.Concerned.{each}
use Rattle.sip_verdict.proofs.tables.Halfway.{mark_outcome, heard_outcome, quiet_others}
use Rattle.sip_verdict.proofs.tables.TablesPassing.{on_record_if, heard_recorded, recorded_more, hears_others, others_left}
use Rattle.sip_verdict.proofs.passing.pass_all.Goals as goal

-- nothing was heard, so each last moment is on record as before
pub returns-in_default-clause-recorded : goal.returns-in_default-clause-recorded
returns-in_default-clause-recorded g c = on_record_if _ c.args.tables.now (λ fine. rw c.in_default.is at c.requires.recorded)

-- the entry concerns no key, so what is overdue is the outcome
pub returns-in_default-clause-outcome : goal.returns-in_default-clause-outcome
returns-in_default-clause-outcome g c = λ p es e newest told ready.
    let t = c.args.tables.now in
    subst (IsOutcome p (key_keeping c.args.book.now p) es e (transactions_of t)) (sym c.overdue-overdue.ensures)
    (mark_outcome c.args.book.now p es e c.args.moment _ t c.requires.may [] (rw c.in_default.is at c.requires.recorded) (rw c.in_default.is at told) ready newest (λ n among. absurd (false≢true among)) (λ n key s at here none. inl refl) refl)

-- the event comes at the moment of the entry
pub hear_each-requires-clause-hear : goal.hear_each-requires-clause-hear
hear_each-requires-clause-hear g c =
    let hear = c.requires.hear c.in-Some.hearing c.in-Some.is in
    subst (λ m. MayHear c.args.book.now c.args.tables.now m c.in-Some.hearing.now) (sym hear.at) hear

-- the tables may pass the moment of the event, which is that of the entry
pub hear_each-requires-clause-may : goal.hear_each-requires-clause-may
hear_each-requires-clause-may g c =
    subst (MayPass c.args.book.now c.args.tables.now) (sym (c.requires.hear c.in-Some.hearing c.in-Some.is).at) c.requires.may

-- the tables may still pass the moment after the event was heard
pub returns-clause-may : goal.returns-clause-may
returns-clause-may g c =
    IfOk-weaker c.hear_each.result _ _ (λ outcome h. subst (MayPass c.args.book.now c.hear_each.new.tables) (c.requires.hear c.in-Some.hearing c.in-Some.is).at h.0) c.hear_each.ensures.heard

-- after the event was heard, each last moment is on record
pub returns-clause-recorded : goal.returns-clause-recorded
returns-clause-recorded g c =
    let h = c.in-Some.hearing.now in
    let t = c.args.tables.now in
    IfOk-weaker c.hear_each.result _ _
    -- h is what is heard, and t are the tables before the event; of what the call gives, heard.1.0 are the numbers of the hearers, heard.1.1 says that they
    -- are those of the event, and heard.1.2 that each of them heard it
    (λ outcome heard.
    let hearers = heard.1.1 in
    heard_recorded c.args.book.now h.event heard.1.0 t c.hear_each.new.tables c.overdue-overdue.result outcome hearers.given
    (recorded_more (each h.concerned) heard.1.0 t hearers.named (rw c.in-Some.is at c.requires.recorded)) heard.1.2) c.hear_each.ensures.heard

-- the outcome is the first transaction in trouble, of those that hear the event and those whose time is over
pub returns-clause-outcome : goal.returns-clause-outcome
returns-clause-outcome g c =
    let h = c.in-Some.hearing.now in
    let t = c.args.tables.now in
    let u = c.hear_each.new.tables in
    -- h is what is heard, t are the tables before the event, and u those after it
    let hear = c.requires.hear c.in-Some.hearing c.in-Some.is in
    IfOk-weaker c.hear_each.result _ _
    (λ outcome heard p es e newest told ready.
    -- the hearers are those of the event, and the last moments of the others are on record
    let told_it = rw c.in-Some.is at told in
    let hearers = heard.1.1 in
    let recorded = recorded_more (each h.concerned) heard.1.0 t hearers.named (rw c.in-Some.is at c.requires.recorded) in
    heard_outcome c.args.book.now p es e c.args.moment _ t c.requires.may heard.1.0 recorded told_it ready newest hearers.heard
    (quiet_others c.args.book.now p es e c.args.moment h t c.requires.may told_it ready newest hear heard.1.0 hearers) h.event (λ n key at. (told_it n key at).event)
    (omega (arith, newest, hear.at)) hearers.given hearers.apart u heard.0.long outcome
    (subst (λ o. HearsEach c.args.book.now h.event heard.1.0 t o u outcome) c.overdue-overdue.ensures heard.1.2)) c.hear_each.ensures.heard

-- the sets that are not to hear the event are as they were
pub returns-clause-others : goal.returns-clause-others
returns-clause-others g c =
    let h = c.in-Some.hearing.now in
    IfOk-weaker c.hear_each.result _ _
    (λ outcome heard n none.
    hears_others c.args.book.now h.event heard.1.0 c.args.tables.now c.hear_each.new.tables c.overdue-overdue.result outcome heard.1.1.given heard.1.2 n
    (others_left h.concerned heard.1.0 (n + 1) heard.1.1.heard (rw c.in-Some.is at none))) c.hear_each.ensures.heard
