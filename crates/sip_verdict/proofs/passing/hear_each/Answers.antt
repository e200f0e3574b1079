-- t are the tables before, and u those after; h is the event with those that it concerns, and `hear` says that it may be heard.
use Rattle.std.proofs.Common.{◌∙◌, refl, sym, ap, subst, arith}
use Rattle.sip_verdict.specs.inner.Tracking.{first_of}
use Rattle.sip_verdict.specs.inner.Concerned.{each, is_all}
use Rattle.sip_verdict.specs.inner.TablesTracking.{HearsEach}
use Rattle.sip_verdict.proofs.tables.TablesPassing.{given_still, named_hearers}
use Rattle.sip_verdict.proofs.passing.hear_each.Goals as goal

-- the cancelled transaction is still one of the tables after its CANCEL was heard
pub hear_one-requires-in-OwnAndCancelled-2-clause-given : goal.hear_one-requires-in-OwnAndCancelled-2-clause-given
hear_one-requires-in-OwnAndCancelled-2-clause-given g c =
    given_still c.in-OwnAndCancelled.cancelled c.args.tables.now c.hear_one-in-OwnAndCancelled.new.tables c.in_ok-hear_one-in-OwnAndCancelled.ensures.keys ((rw c.in-OwnAndCancelled.is at c.requires.hear.given) 1 0 (omega arith))

-- where the event concerns no transaction, none hears it, and the tables are as before
pub returns-in-None-clause-heard : goal.returns-in-None-clause-heard
returns-in-None-clause-heard g c =
    let t = c.args.tables.now in
    let h = c.args.hearing.now in
    let hear = c.requires.hear in (
      c.requires.may,
      -- there are no hearers
      (
        each h.concerned,
        named_hearers t h.concerned (ap is_all c.in-None.is) hear.given hear.apart,
        subst (λ x. HearsEach c.args.book.now h.event (each x) t c.args.others t c.args.others) (sym c.in-None.is) (refl, refl),
      ),
    )

-- where the event concerns its own transaction alone, that one hears it
pub returns-in_ok-hear_one-in-Own-clause-heard : goal.returns-in_ok-hear_one-in-Own-clause-heard
returns-in_ok-hear_one-in-Own-clause-heard g c =
    let t = c.args.tables.now in
    let u = c.hear_one.new.tables in
    let h = c.args.hearing.now in
    let hear = c.requires.hear in
    -- `heard` is what the call for the own transaction promises
    let heard = c.in_ok-hear_one-in-Own.ensures in (
      heard.may,
      -- the own transaction is the only hearer
      (
        each h.concerned,
        named_hearers t h.concerned (ap is_all c.in-Own.is) hear.given hear.apart,
        subst (λ x. HearsEach c.args.book.now h.event (each x) t c.args.others u c.first.result) (sym c.in-Own.is) (u, c.in_ok-hear_one-in-Own.field-0, heard.heard, (refl, c.first.ensures)),
      ),
    )

-- where the event concerns its own transaction and the cancelled one, both hear it, the own one first
pub returns-in_ok-hear_one-in-OwnAndCancelled-2-clause-heard : goal.returns-in_ok-hear_one-in-OwnAndCancelled-2-clause-heard
returns-in_ok-hear_one-in-OwnAndCancelled-2-clause-heard g c =
    -- t are the tables before, mid those after the own transaction has heard the event, and u those after the cancelled one has
    let t = c.args.tables.now in
    let mid = c.hear_one-in-OwnAndCancelled.new.tables in
    let u = c.hear_one-in-OwnAndCancelled-2.new.tables in
    let h = c.args.hearing.now in
    let hear = c.requires.hear in
    let own = c.in_ok-hear_one-in-OwnAndCancelled in
    let cancelled = c.in_ok-hear_one-in-OwnAndCancelled-2 in (
      -- the own transaction and the cancelled one are the hearers
      cancelled.ensures.may,
      -- the two hear the event one after another, and their outcomes are joined in this order
      (
        each h.concerned,
        named_hearers t h.concerned (ap is_all c.in-OwnAndCancelled.is) hear.given hear.apart,
        subst (λ x. HearsEach c.args.book.now h.event (each x) t c.args.others u c.first-in-OwnAndCancelled.result) (sym c.in-OwnAndCancelled.is)
            (mid, own.field-0, own.ensures.heard, (u, cancelled.field-0, cancelled.ensures.heard, (refl, c.first-in-OwnAndCancelled.ensures ∙ ap (λ o. first_of o cancelled.field-0) c.first-others.ensures))),
      ),
    )
