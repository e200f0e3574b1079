-- `is` says that the fields of the judge are those of what it holds, `comes` that the entry may come next, and `stands` that the judge has taken es.
-- What holds of a judge that goes on: (.0) the next entry may be taken, and (.1) the messages that the last sweep left are within their limit.
use Rattle.std.proofs.Common.{◌+◌, ◌∙◌, All, Contains, refl, sym, ap, subst, arith}
use Rattle.sip_verdict.specs.Judging.{Judging, AreFollowed, MayComeNext}
use Rattle.sip_verdict.proofs.judges.JudgeLemmas.{may_take_next, stands_on}
use Rattle.sip_verdict.proofs.sweeps.SweptBook.{same_within}
use Rattle.sip_verdict.proofs.stream.Judge.entry.Goals as goal

-- the entry may come next
pub judge_next-requires-clause-may : goal.judge_next-requires-clause-may
judge_next-requires-clause-may g c =
    let s = c.self.inside in
    let e = c.args.entry.now in
    let is = c.self.view_is in
    let next = subst (λ j. MayComeNext j.number j.moment e.number e.moment) (sym is) (c.requires (ap (λ j. j.stage) (sym is) ∙ c.in-Open.is)) in
    may_take_next s.standing.book s.standing.tables s.number s.moment e.number e.moment next (c.self.invariant c.in-Open.is).0

-- where the entry brings no verdict, the judge stands after it
pub returns-in-Ok-None-clause-judged : goal.returns-in-Ok-None-clause-judged
returns-in-Ok-None-clause-judged g c es stands =
    -- e is the entry, which comes next by its number, and `now` is what the judge holds after it
    let e = c.args.entry.now in
    let is = c.self.view_is in
    let comes = c.requires (ap (λ j. j.stage) (sym is) ∙ c.in-Open.is) in
    let next = comes.next in
    let new = c.judge_next.new in
    let now : Judging = record { number = e.number; moment = e.moment; texts = new.standing.book; tables = new.standing.tables; left = new.left; stage = c.self.inside.stage } in
    -- what the call promises holds here, since the entry has the next number and is not before the newest
    stands_on c.args.self.now now e next refl refl c.in-Open.is es stands
    ((rw c.in-Ok-None.field-0-is at c.in-Ok-None.ensures.judged) es (subst (λ j. AreFollowed j.texts j.tables j.left es) (sym is) stands.follows) (next ∙ ap (λ n. n + 1) stands.number) (omega (arith, comes.order, stands.moment)))

-- after an entry without keys the book has no message that is new
pub returns-in-Ok-None-clause-keyless : goal.returns-in-Ok-None-clause-keyless
returns-in-Ok-None-clause-keyless g c none = subst (λ j. All (Contains j.texts) c.judge_next.new.standing.book) c.self.view_is (c.in-Ok-None.ensures.keyless none)

-- the entry is in trouble, and the verdict is on the entries up to it
pub returns-in-Ok-Some-clause-judged : goal.returns-in-Ok-Some-clause-judged
returns-in-Ok-Some-clause-judged g c es stands =
    let is = c.self.view_is in
    let comes = c.requires (ap (λ j. j.stage) (sym is) ∙ c.in-Open.is) in
    let h = (rw c.in-Ok-Some.field-0-is at c.in-Ok-Some.ensures.judged) es (subst (λ j. AreFollowed j.texts j.tables j.left es) (sym is) stands.follows) (comes.next ∙ ap (λ n. n + 1) stands.number)
    (omega (arith, comes.order, stands.moment)) in
    -- what is seen of the entry, and its verdict
    (h.0, h.1, h.2)

-- after an entry without keys the book has no message that is new
pub returns-in-Ok-Some-clause-keyless : goal.returns-in-Ok-Some-clause-keyless
returns-in-Ok-Some-clause-keyless g c none = subst (λ j. All (Contains j.texts) c.judge_next.new.standing.book) c.self.view_is (c.in-Ok-Some.ensures.keyless none)

-- the judge has told its verdict, and its book stays
pub returns-in-Told-clause-keyless : goal.returns-in-Told-clause-keyless
returns-in-Told-clause-keyless g c none = same_within c.args.self.now.texts c.args.self.now.texts refl
