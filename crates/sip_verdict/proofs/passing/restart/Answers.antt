use Rattle.std.proofs.Common.{All, sym, subst}
use Rattle.sip_states.specs.Tables.{IsGiven}
use Rattle.sip_verdict.specs.declared.concerned.Concerned.TheVariants as concerned
use Rattle.sip_verdict.specs.inner.TablesTracking.{MayPass, AreHearers, HearsEach}
use Rattle.sip_verdict.proofs.tables.TablesPassing.{all_hearers}
use Rattle.sip_verdict.proofs.passing.restart.Goals as goal

-- the tables have all these numbers
pub hear_all-requires-clause-given : goal.hear_all-requires-clause-given
hear_all-requires-clause-given g c = subst (All (IsGiven c.args.tables.now)) (sym c.as_slice.ensures.value) c.in_ok-numbers.ensures.given

-- the hearers of a restart are all transactions
pub returns-clause-heard : goal.returns-clause-heard
returns-clause-heard g c =
    let t = c.args.tables.now in
    let event = c.args.event.now in
    let heard = c.in_ok-outcome.ensures in (
      subst (λ u. MayPass c.args.book.now u event.moment) (sym c.restarted.ensures) heard.may,
      -- the hearers are all numbers of the tables
      (
        c.as_slice.result.now,
        subst (AreHearers t concerned.All) (sym c.as_slice.ensures.value) (all_hearers t c.in_ok-numbers.numbers.items c.in_ok-numbers.ensures),
        subst (λ u. HearsEach c.args.book.now event c.as_slice.result.now t c.args.others u c.in_ok-outcome.outcome) (sym c.restarted.ensures) heard.heard,
      ),
    )
