use Rattle.std.proofs.Common.{◌≡◌, ◌+◌, ◌||◌, false, [], ◌∷◌, sym, ap, ◌∙◌, subst, arith}
use Rattle.std.proofs.lemmas.Bool.{false≢true}
use Rattle.std.proofs.lemmas.Result.{on_ok_weaker}
use Rattle.sip_verdict.specs.inner.Concerned.{each, is_all}
use Rattle.sip_verdict.specs.inner.TablesTracking.{is_among}
use Rattle.sip_verdict.specs.inner.Surveying.{HearsNumbers}
use Rattle.sip_verdict.proofs.tables.TablesPassing.{given_still, named_hearers, among_none}
use Rattle.sip_verdict.proofs.surveys.found.Numbered.{hears_none, hears_one, hears_two}
use Rattle.sip_verdict.proofs.releasing.hear_each.Goals as goal

-- no transaction was to hear the event, so all are watched as before
pub returns-in-None-clause-watched : goal.returns-in-None-clause-watched
returns-in-None-clause-watched g c = λ h. rw c.in-None.is at h

-- where the event concerns no transaction, none hears it
pub returns-in-None-clause-heard : goal.returns-in-None-clause-heard
returns-in-None-clause-heard g c =
    -- t are the tables, b what is in trouble, and h what is heard, which concerns none
    let t = c.args.tables.now in
    let b = c.args.troubled.now in
    let h = c.args.hearing.now in
    let hear = c.requires.hear in
    (each h.concerned, named_hearers t h.concerned (ap is_all c.in-None.is) hear.given hear.apart, subst (λ x. HearsNumbers c.args.book.now h.event (each x) t b t b) (sym c.in-None.is) (hears_none c.args.book.now h.event t b))

-- the other sets are as they were
pub returns-in-Own-clause-others : goal.returns-in-Own-clause-others
returns-in-Own-clause-others g c =
    on_ok_weaker c.hear_or_release.result (λ still n none. still n (among_none (n + 1) c.in-Own.own [] (subst (λ x. (is_all x || is_among (each x) (n + 1)) ≡ false) c.in-Own.is none)).0) c.hear_or_release.ensures.others

-- the other sets are as they were
pub returns-in_ok-hear_or_release-in-OwnAndCancelled-clause-others : goal.returns-in_ok-hear_or_release-in-OwnAndCancelled-clause-others
returns-in_ok-hear_or_release-in-OwnAndCancelled-clause-others g c =
    let own = c.in-OwnAndCancelled.own in
    let cancelled = c.in-OwnAndCancelled.cancelled in
    on_ok_weaker c.hear_or_release-in-OwnAndCancelled-2.result (λ still n none.
    -- the number is neither that of the own transaction nor that of the cancelled one, so that both calls leave its set
    let apart = among_none (n + 1) own (cancelled ∷ []) (subst (λ x. (is_all x || is_among (each x) (n + 1)) ≡ false) c.in-OwnAndCancelled.is none) in
    still n (among_none (n + 1) cancelled [] apart.1).0 ∙ c.in_ok-hear_or_release-in-OwnAndCancelled.ensures.others n apart.0) c.hear_or_release-in-OwnAndCancelled-2.ensures.others

-- at a restart all transactions hear the event, so there are no others
pub returns-in-All-clause-others : goal.returns-in-All-clause-others
returns-in-All-clause-others g c = on_ok_weaker c.restart.result (λ keys n none. absurd (false≢true (sym (subst (λ x. (is_all x || is_among (each x) (n + 1)) ≡ false) c.in-All.is none)))) c.restart.ensures.keys

-- the cancelled transaction is still one of the tables
pub hear_or_release-requires-in-OwnAndCancelled-2-clause-given : goal.hear_or_release-requires-in-OwnAndCancelled-2-clause-given
hear_or_release-requires-in-OwnAndCancelled-2-clause-given g c =
    given_still c.in-OwnAndCancelled.cancelled c.args.tables.now c.hear_or_release-in-OwnAndCancelled.new.tables c.in_ok-hear_or_release-in-OwnAndCancelled.ensures.keys ((rw c.in-OwnAndCancelled.is at c.requires.hear.given) 1 0 (omega arith))

-- after the own transaction has heard the event, all are watched
pub returns-in-Own-clause-watched : goal.returns-in-Own-clause-watched
returns-in-Own-clause-watched g c = on_ok_weaker c.hear_or_release.result (λ watched h. watched [] (rw c.in-Own.is at h)) c.hear_or_release.ensures.watched

-- where the event concerns its own transaction alone, that one hears it or is released
pub returns-in-Own-clause-heard : goal.returns-in-Own-clause-heard
returns-in-Own-clause-heard g c =
    -- t and b are the tables and the trouble at first, u and d those after the own transaction has heard
    let t = c.args.tables.now in
    let b = c.args.troubled.now in
    let u = c.hear_or_release.new.tables in
    let d = c.hear_or_release.new.troubled in
    let h = c.args.hearing.now in
    -- the own transaction is the only hearer
    let hear = c.requires.hear in
    on_ok_weaker c.hear_or_release.result (λ heard.
    (each h.concerned, named_hearers t h.concerned (ap is_all c.in-Own.is) hear.given hear.apart, subst (λ x. HearsNumbers c.args.book.now h.event (each x) t b u d) (sym c.in-Own.is) (hears_one c.args.book.now h.event c.in-Own.own t b u d heard)))
    c.hear_or_release.ensures.heard

-- after both have heard the event, all transactions are watched
pub returns-in_ok-hear_or_release-in-OwnAndCancelled-clause-watched : goal.returns-in_ok-hear_or_release-in-OwnAndCancelled-clause-watched
returns-in_ok-hear_or_release-in-OwnAndCancelled-clause-watched g c =
    on_ok_weaker c.hear_or_release-in-OwnAndCancelled-2.result
    (λ watched h. watched [] (c.in_ok-hear_or_release-in-OwnAndCancelled.ensures.watched (c.in-OwnAndCancelled.cancelled ∷ []) (rw c.in-OwnAndCancelled.is at h))) c.hear_or_release-in-OwnAndCancelled-2.ensures.watched

-- where the event concerns its own transaction and the cancelled one, each hears it or is released, the own one first
pub returns-in_ok-hear_or_release-in-OwnAndCancelled-clause-heard : goal.returns-in_ok-hear_or_release-in-OwnAndCancelled-clause-heard
returns-in_ok-hear_or_release-in-OwnAndCancelled-clause-heard g c =
    -- t and b are the tables and the trouble at first, u and d those after the own transaction has heard, and v and f those after the cancelled one has
    let t = c.args.tables.now in
    let b = c.args.troubled.now in
    let u = c.hear_or_release-in-OwnAndCancelled.new.tables in
    let d = c.hear_or_release-in-OwnAndCancelled.new.troubled in
    let v = c.hear_or_release-in-OwnAndCancelled-2.new.tables in
    let f = c.hear_or_release-in-OwnAndCancelled-2.new.troubled in
    -- h is the event with the transactions that hear it
    let h = c.args.hearing.now in
    let hear = c.requires.hear in
    -- the two keys are hearers, one after the other
    let first = c.in_ok-hear_or_release-in-OwnAndCancelled.ensures in
    -- `second` says what the second call has left: both keys have heard the event then
    on_ok_weaker c.hear_or_release-in-OwnAndCancelled-2.result (λ second. (
      each h.concerned,
      named_hearers t h.concerned (ap is_all c.in-OwnAndCancelled.is) hear.given hear.apart,
      subst (λ x. HearsNumbers c.args.book.now h.event (each x) t b v f) (sym c.in-OwnAndCancelled.is)
          (hears_two c.args.book.now h.event c.in-OwnAndCancelled.own c.in-OwnAndCancelled.cancelled t b u d v f first.times first.keys first.heard second),
    ))
    c.hear_or_release-in-OwnAndCancelled-2.ensures.heard
