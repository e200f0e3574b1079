-- `is` says that the fields of the survey are those of what it holds.
use Rattle.std.proofs.Common.{◌∙◌, All, Contains, length, sym, ap, subst}
use Rattle.sip_verdict.specs.Forgetting.{ForgetsUpTo, remembered}
use Rattle.sip_verdict.specs.Named.{AreMany}
use Rattle.sip_verdict.specs.Surveys.{AreHistories, AreSurveyed, IsStillNamed}
use Rattle.sip_verdict.proofs.surveys.forgetting.Forgotten.{newest_kept, long_kept}
use Rattle.sip_verdict.proofs.following.Survey.forget.Goals as goal

-- where the survey stands after the entries, it now stands after what is remembered of them
pub returns-in-Ok-clause-forgets : goal.returns-in-Ok-clause-forgets
returns-in-Ok-clause-forgets g c = λ es surveys.
    let is = c.self.view_is in
    -- `kept` tells which keys are kept, `forgets` that the others are just those that are over and old enough, and `many` how many messages are still named
    let (kept, forgets, follows, told, many) =
    c.in-Ok.ensures.forgets es (subst (λ j. AreSurveyed j.texts j.tables j.deaf j.left es) (sym is) surveys.follows) (subst (λ j. AreHistories es j.histories) (sym is) surveys.histories)
    (sym surveys.moment ∙ ap (λ j. j.moment) (sym is)) in (
      kept,
      subst (λ j. ForgetsUpTo c.args.until j.tables.times es kept) is forgets,
      -- the survey has as many entries as before, and the same newest moment
      record {
        goes_on = c.if-self.false;
        number = ap (λ j. j.number) is ∙ surveys.number ∙ sym (long_kept kept es);
        moment = ap (λ j. j.moment) is ∙ surveys.moment ∙ sym (newest_kept kept es);
        follows = follows;
        histories = told;
      },
      subst (λ j. AreMany (IsStillNamed j.tables.times (remembered kept es)) (length c.forget-forgotten.new.standing.book)) is many,
    )

-- the book has no message that is new
pub returns-in-Ok-clause-fewer : goal.returns-in-Ok-clause-fewer
returns-in-Ok-clause-fewer g c = subst (λ j. All (Contains j.texts) c.forget-forgotten.new.standing.book) c.self.view_is c.in-Ok.ensures.fewer
