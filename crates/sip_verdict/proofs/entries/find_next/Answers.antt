-- `mid` is what stands after the entry was taken, before the sweep, and `new` what stands after the sweep; `swept` is what the sweep promises.
use Rattle.std.proofs.Common.{◌≤◌, ◌+◌, ◌++◌, ◌∷◌, [], ◌∙◌, All, Contains, length, slice_get, sym, ap, subst, arith}
use Rattle.sip_verdict.proofs.sweeps.FollowedLemmas.{swept_take}
use Rattle.sip_verdict.proofs.keys.Keys.{newest_moment-push}
use Rattle.sip_verdict.proofs.sweeps.SweptBook.{same_within, within_keeps}
use Rattle.sip_verdict.proofs.surveys.kept.Kept.{surveyed_kept, surveyed_swept}
use Rattle.sip_verdict.proofs.entries.find_next.Goals as goal

-- where no sweep is due yet, what was found at the entry is right, and the book has few enough messages
pub returns-then-kept-left-clause-found : goal.returns-then-kept-left-clause-found
returns-then-kept-left-clause-found g c = λ es surveyed counts late.
    let s = c.args.standing.now in
    let mid = c.find.new.standing in
    let left = c.args.left.now in
    -- few messages are kept still: the test says that no sweep is due
    let few : length mid.book ≤ left + left + 64 = omega (arith, c.kept.ensures.kept, c.if-kept-left.true) in
    -- e is what is observed of the entry, `here` what is found at it, and `tracks` says that the tables follow it too
    let (e, here, seen, now, found, added, tracks) = c.in_ok-find.ensures.found es surveyed.tracks counts late in
    (e, here, seen, found, added, surveyed_kept s.book mid.book s.tables mid.tables c.args.troubled.now.deaf.items c.find.new.troubled.deaf.items left es e c.in_ok-find.ensures.times surveyed few tracks)

-- after an entry without keys the book has no message that is new
pub returns-then-kept-left-clause-keyless : goal.returns-then-kept-left-clause-keyless
returns-then-kept-left-clause-keyless g c none = same_within c.args.standing.now.book c.find.new.standing.book (c.in_ok-find.ensures.keyless none)

-- after the sweep the next entry may come
pub returns-clause-may : goal.returns-clause-may
returns-clause-may g c =
    let mid = c.find.new.standing in
    let new = c.sweep.new.self in
    let e = c.args.entry.now in
    let swept = c.in_ok-sweep.ensures in
    -- what the sweep leaves may take the next entry, as what stood before it could
    swept_take mid.book new.book mid.tables new.tables (e.number + 1) e.moment c.in_ok-find.ensures.may swept.may swept.recorded (within_keeps mid.book new.book swept.fewer) swept.keys

-- after the sweep there are at most two keys more, as after the entry
pub returns-clause-keys : goal.returns-clause-keys
returns-clause-keys g c = let same = ap length c.in_ok-sweep.ensures.keys in let few = c.in_ok-find.ensures.keys in omega arith

-- the book keeps at most as many messages as there were entries
pub returns-clause-left : goal.returns-clause-left
returns-clause-left g c =
    let may = c.in_ok-find.ensures.may in
    let fewer = within_keeps c.find.new.standing.book c.sweep.new.self.book c.in_ok-sweep.ensures.fewer in
    -- each number that the book keeps is at most that of the entry
    let high = c.kept-2.ensures.few (c.args.entry.now.number + 1) (λ n keeps. may.numbered n (fewer n keeps)) in
    omega (arith, high, c.requires.count)

-- after the sweep the book has no message that is new
pub returns-clause-keyless : goal.returns-clause-keyless
returns-clause-keyless g c none = subst (λ b. All (Contains b) c.sweep.new.self.book) (c.in_ok-find.ensures.keyless none) c.in_ok-sweep.ensures.fewer

-- the sweep leaves what is watched of each transaction
pub returns-clause-watched : goal.returns-clause-watched
returns-clause-watched g c =
    let h = c.in_ok-find.ensures.watched in
    let swept = c.in_ok-sweep.ensures in
    record { long = h.long ∙ ap length (sym swept.keys); recorded = swept.recorded; silent = λ n is. ap (λ rs. slice_get rs n) swept.records ∙ h.silent n is }

-- what was found at the entry is still right after the sweep, and the tables that are left track one entry more
pub returns-clause-found : goal.returns-clause-found
returns-clause-found g c = λ es surveyed counts late.
    let mid = c.find.new.standing in
    let new = c.sweep.new.self in
    let swept = c.in_ok-sweep.ensures in
    let h = c.in_ok-find.ensures in
    -- what was found at the entry before the sweep
    let (e, here, seen, now, found, added, tracks) = h.found es surveyed.tracks counts late in (
      e,
      here,
      seen,
      found,
      added,
      -- what is left follows the entry too, with as many messages as are still named
      surveyed_swept new.book mid.tables new.tables c.find.new.troubled.deaf.items c.kept-2.result (es ++ e ∷ []) swept.times c.kept-2.ensures.kept
          (swept.surveyed (es ++ e ∷ []) c.find.new.troubled.deaf.items tracks (newest_moment-push es e ∙ now) h.watched.long),
    )
