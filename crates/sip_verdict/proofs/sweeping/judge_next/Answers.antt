-- s is what stands before the entry e, `mid` after it, and `new` after the sweep; `swept` is what the sweep promises. `left` is how many messages the
-- book kept after the last sweep; the next one is due where it has more than twice as many and 64.
use Rattle.std.proofs.Common.{◌≤◌, ◌+◌, Contains, length, arith}
use Rattle.std.proofs.lemmas.List.Elements.{All-contains, All-weaker}
use Rattle.sip_log.specs.Told.{item}
use Rattle.sip_verdict.proofs.sweeps.FollowedLemmas.{followed_kept, followed_swept, swept_take}
use Rattle.sip_verdict.proofs.sweeps.SweptBook.{within_keeps}
use Rattle.sip_verdict.proofs.sweeping.judge_next.Goals as goal

-- where no sweep is due yet, the judge follows the entries as it did, and the book has few enough messages
pub returns-then-kept-left-clause-judged : goal.returns-then-kept-left-clause-judged
returns-then-kept-left-clause-judged g c =
    let s = c.args.standing.now in
    let mid = c.judge.new.self in
    let e = c.args.entry.now in
    let left = c.args.left.now in
    -- few messages are kept still: the test says that no sweep is due
    let few : length mid.book ≤ left + left + 64 = omega (arith, c.kept.ensures.kept, c.if-kept-left.true) in
    followed_kept s.book mid.book s.tables mid.tables c.in_ok-verdict.ensures.times e.number (item e) (rw c.in_default.is at c.in_ok-verdict.ensures.judged) left few

-- after the sweep the next entry may come
pub returns-clause-may : goal.returns-clause-may
returns-clause-may g c =
    let mid = c.judge.new.self in
    let new = c.sweep.new.self in
    let e = c.args.entry.now in
    let swept = c.in_ok-sweep.ensures in
    swept_take mid.book new.book mid.tables new.tables (e.number + 1) e.moment (rw c.in_default.is at c.in_ok-verdict.ensures.may) swept.may swept.recorded (within_keeps mid.book new.book swept.fewer) swept.keys

-- the book keeps at most as many messages as there were entries
pub returns-clause-left : goal.returns-clause-left
returns-clause-left g c =
    let may = rw c.in_default.is at c.in_ok-verdict.ensures.may in
    let fewer = within_keeps c.judge.new.self.book c.sweep.new.self.book c.in_ok-sweep.ensures.fewer in
    -- each number that the book keeps is at most that of the entry
    let high = c.kept-2.ensures.few (c.args.entry.now.number + 1) (λ n keeps. may.numbered n (fewer n keeps)) in
    omega (arith, high, c.requires.count)

-- after an entry without keys the book has no message that is new
pub returns-clause-keyless : goal.returns-clause-keyless
returns-clause-keyless g c none =
    let old = c.args.standing.now.book in
    let mid = c.judge.new.self.book in
    All-weaker (Contains mid) (Contains old) (λ x has. All-contains (Contains old) mid x (c.in_ok-verdict.ensures.keyless none) has) c.sweep.new.self.book c.in_ok-sweep.ensures.fewer

-- after a sweep the judge follows the entries, and `left` is how many messages the book kept
pub returns-clause-judged : goal.returns-clause-judged
-- s is what stands before the entry e, `mid` after it, and `new` after the sweep
returns-clause-judged g c =
    let s = c.args.standing.now in
    let mid = c.judge.new.self in
    let new = c.sweep.new.self in
    let e = c.args.entry.now in
    -- `swept` says what a sweep keeps of what was judged
    let swept = c.in_ok-sweep.ensures in
    followed_swept s.book mid.book s.tables mid.tables c.in_ok-verdict.ensures.times e.number (item e) (rw c.in_default.is at c.in_ok-verdict.ensures.judged) new.book new.tables swept.times swept.tracks swept.named
    c.kept-2.result c.kept-2.ensures.kept c.args.left.now
