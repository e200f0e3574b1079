use Rattle.std.proofs.Common.{All, [], sym, subst}
use Rattle.std.proofs.lemmas.Bool.{false≢true}
use Rattle.sip_states.specs.Tables.{IsGiven}
use Rattle.sip_verdict.specs.declared.concerned.Concerned.TheVariants as concerned
use Rattle.sip_verdict.specs.inner.TablesTracking.{MayPass, AreHearers}
use Rattle.sip_verdict.specs.inner.Surveying.{AreWatched, HearsNumbers}
use Rattle.sip_verdict.proofs.tables.TablesPassing.{all_hearers}
use Rattle.sip_verdict.proofs.surveys.passing.Watching.{watched_more}
use Rattle.sip_verdict.proofs.releasing.restart.Goals as goal

-- the tables have all these numbers
pub hear_numbers-requires-clause-given : goal.hear_numbers-requires-clause-given
hear_numbers-requires-clause-given g c = subst (All (IsGiven c.args.tables.now)) (sym c.as_slice.ensures.value) c.in_ok-numbers.ensures.given

-- the restart was heard, and the tables may still pass its moment
pub returns-clause-may : goal.returns-clause-may
returns-clause-may g c = subst (λ u. MayPass c.args.book.now u c.args.event.now.moment) (sym c.restarted.ensures) c.in_ok-hear_numbers.ensures.may

-- after all have heard the restart, all are watched
pub returns-clause-watched : goal.returns-clause-watched
returns-clause-watched g c = λ h.
    subst (λ u. AreWatched [] u c.hear_numbers.new.troubled) (sym c.restarted.ensures)
    (c.in_ok-hear_numbers.ensures.watched (watched_more [] c.as_slice.result.now c.args.tables.now c.args.troubled.now (λ n none. absurd (false≢true none)) h))

-- all transactions hear the restart, one after another
pub returns-clause-heard : goal.returns-clause-heard
returns-clause-heard g c =
    -- t are the tables, and the hearers are the numbers of all sets that a restart may change
    let t = c.args.tables.now in (
      c.as_slice.result.now,
      subst (AreHearers t concerned.All) (sym c.as_slice.ensures.value) (all_hearers t c.in_ok-numbers.numbers.items c.in_ok-numbers.ensures),
      subst (λ u. HearsNumbers c.args.book.now c.args.event.now c.as_slice.result.now t c.args.troubled.now u c.hear_numbers.new.troubled) (sym c.restarted.ensures) c.in_ok-hear_numbers.ensures.heard,
    )
