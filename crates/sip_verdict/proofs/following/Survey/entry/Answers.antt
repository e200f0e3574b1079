-- `is` says that the fields of the survey are those of what it holds, and `comes` that the entry may come next; s has these fields, and e is the entry.
-- What holds of a survey that goes on: (.0) the next entry may be taken, (.1) what holds of its tables (AreWatched), (.2) no transaction has come into
-- trouble at the entry in hand yet, and (.3) the messages that the last sweep left and (.4) the entries are within their limits.
use Rattle.std.proofs.Common.{◌≤◌, ◌+◌, ◌∙◌, All, Contains, length, sym, ap, subst, arith}
use Rattle.std.proofs.lemmas.List.{length_push}
use Rattle.sip_log.specs.Told.{item}
use Rattle.sip_verdict.specs.SurveyOf.{AreFoundAt}
use Rattle.sip_verdict.specs.Surveys.{AreHistories, AreSurveyed, MayFollow}
use Rattle.sip_verdict.proofs.sweeps.FollowedLemmas.{observed_moment}
use Rattle.sip_verdict.proofs.tables.JudgeTables.{next_may}
use Rattle.sip_verdict.proofs.following.Survey.entry.Goals as goal

-- the entry may come next
pub find_next-taken-requires-clause-may : goal.find_next-taken-requires-clause-may
find_next-taken-requires-clause-may g c =
    -- s is what the survey holds, e the entry, and `next` says that it may follow
    let s = c.self.inside in
    let e = c.args.entry.now in
    let is = c.self.view_is in
    let next = subst (λ j. MayFollow j.number j.moment (length j.tables.keys) e.number e.moment) (sym is) (c.requires (ap (λ j. j.failed) (sym is) ∙ c.if-self.false)) in
    next_may s.standing.book s.standing.tables s.number s.moment e.number e.moment next.next next.order (c.self.invariant c.if-self.false).0

-- the entry's number is within the most entries
pub find_next-taken-requires-clause-count : goal.find_next-taken-requires-clause-count
find_next-taken-requires-clause-count g c =
    let is = c.self.view_is in
    let comes = c.requires (ap (λ j. j.failed) (sym is) ∙ c.if-self.false) in
    let next = comes.next in
    let low = comes.room.0 in
    -- the number is the next one, and there is room for one entry more
    omega arith

-- there is room for two keys more
pub find_next-taken-requires-clause-room : goal.find_next-taken-requires-clause-room
find_next-taken-requires-clause-room g c =
    let is = c.self.view_is in
    let comes = c.requires (ap (λ j. j.failed) (sym is) ∙ c.if-self.false) in
    let keys = ap (λ j. length j.tables.keys) is in
    let few = comes.room.1 in
    -- the tables have as many keys as the survey says, and there is room for two more
    omega arith

-- where the survey stands after the entries, what was found at the next one is right, and it stands after that one too
pub returns-in-Ok-clause-found : goal.returns-in-Ok-clause-found
returns-in-Ok-clause-found g c = λ es surveys.
    let e = c.args.entry.now in
    let is = c.self.view_is in
    let comes = c.requires (ap (λ j. j.failed) (sym is) ∙ c.if-self.false) in
    -- what was found at the entry, which was appended
    let (seen, here, observed, found, added, follows) =
    c.in-Ok.ensures.found es (subst (λ j. AreSurveyed j.texts j.tables j.deaf j.left es) (sym is) surveys.follows) (comes.next ∙ ap (λ n. n + 1) surveys.number) (omega (arith, comes.order, surveys.moment)) in (
      seen,
      here,
      observed,
      subst (λ j. AreFoundAt j.tables.times es seen here) is found,
      added,
      -- the survey stands after one entry more
      record {
        goes_on = c.if-self.false;
        number = comes.next ∙ ap (λ n. n + 1) surveys.number ∙ sym (length_push es seen);
        moment = sym (observed_moment es (item e) seen observed);
        follows = follows;
        -- the histories are those of the entries and this one
        histories = c.in-Ok.ensures.histories es seen (subst (λ j. AreHistories es j.histories) (sym is) surveys.histories)
            (ap (λ j. j.tables.keys) is ∙ surveys.follows.tracks.keys) (comes.next ∙ ap (λ n. n + 1) surveys.number) observed;
      },
    )

-- the entry brings at most two new keys
pub returns-in-Ok-clause-keys : goal.returns-in-Ok-clause-keys
returns-in-Ok-clause-keys g c = subst (λ j. length c.find_next-taken.new.standing.tables.keys ≤ length j.tables.keys + 2) c.self.view_is c.in-Ok.ensures.keys

-- after an entry without keys the book has no message that is new
pub returns-in-Ok-clause-keyless : goal.returns-in-Ok-clause-keyless
returns-in-Ok-clause-keyless g c none = subst (λ j. All (Contains j.texts) c.find_next-taken.new.standing.book) c.self.view_is (c.in-Ok.ensures.keyless none)
