-- `mid` is what stands after the entry was taken, and `new` what stands once its message was dropped, if no set names it.
use Rattle.std.proofs.Common.{None, ◌+◌, All, Contains, sym, subst}
use Rattle.sip_verdict.specs.inner.Tracking.{IsJudged}
use Rattle.sip_verdict.specs.inner.TablesTracking.{key_keeping, transactions_of, MayTake}
use Rattle.sip_verdict.proofs.sweeps.SweptBook.{same_within}
use Rattle.sip_verdict.proofs.sweeps.NewestLemmas.{known_unnamed, dropped_judged, dropped_take, dropped_within}
use Rattle.sip_verdict.proofs.standing.Standing.judge.Goals as goal

-- the sets of other keys do not name the newest message
pub drop_unnamed-requires-clause-others : goal.drop_unnamed-requires-clause-others
drop_unnamed-requires-clause-others g c some n set among at =
    known_unnamed c.args.self.now.book c.args.entry.now.number c.requires.may.numbered set (c.in_ok-taken.ensures.others some n set among at)

-- the next entry may be taken, also where the newest message was dropped
pub returns-clause-may : goal.returns-clause-may
returns-clause-may g c =
    let e = c.args.entry.now in
    let mid = c.take.new.self in
    let new = c.drop_unnamed.new.self in
    subst (λ t. MayTake new.book t (e.number + 1) e.moment) (sym c.drop_unnamed.ensures.tables)
    (dropped_take e.number mid.book new.book mid.tables (e.number + 1) e.moment c.drop_unnamed.ensures.book (rw c.in_default.is at c.in_ok-taken.ensures.may))

-- where the entry concerns no key, the book has no message more
pub returns-clause-keyless : goal.returns-clause-keyless
returns-clause-keyless g c none =
    let mid = c.take.new.self in
    let new = c.drop_unnamed.new.self in
    subst (λ b. All (Contains b) new.book) (c.in_ok-taken.ensures.keyless none) (dropped_within mid.tables.sets c.args.entry.now.number mid.book new.book c.drop_unnamed.ensures.book)

-- after an entry without keys the book has no message that is new
pub returns-in-Some-clause-keyless : goal.returns-in-Some-clause-keyless
returns-in-Some-clause-keyless g c none = same_within c.args.self.now.book c.take.new.self.book (c.in_ok-taken.ensures.keyless none)

-- what was judged at the entry holds after the newest message was dropped, since no state names it
pub returns-clause-judged : goal.returns-clause-judged
returns-clause-judged g c = λ es tracks counts newest.
    let number = c.args.entry.now.number in
    let p = c.args.self.now.tables.times in
    let mid = c.take.new.self in
    let new = c.drop_unnamed.new.self in
    -- what was judged before the message was dropped
    let (e, seen, judged, have) = c.in_ok-taken.ensures.judged es tracks counts newest in (
      e,
      seen,
      subst (λ t. IsJudged p (key_keeping new.book p) es e (transactions_of t) None) (sym c.drop_unnamed.ensures.tables)
          (dropped_judged number mid.book new.book p es e mid.tables c.drop_unnamed.ensures.book (rw c.in_default.is at judged)),
    )
