-- i is the place of the next number; `heard` is what the call for it promises, and `old` what held at the start of this turn of the loop.
use Rattle.std.proofs.Common.{◌+◌, ◌∙◌, take, get_or, sym, subst, arith}
use Rattle.std.proofs.lemmas.List.{take_more}
use Rattle.sip_verdict.specs.inner.Tracking.{first_of}
use Rattle.sip_verdict.specs.inner.TablesTracking.{HearsEach}
use Rattle.sip_verdict.proofs.tables.TablesPassing.{given_still, hears_more}
use Rattle.sip_verdict.proofs.passing.hear_all.Goals as goal

-- the tables still have the number
pub hear_one-requires-clause-given : goal.hear_one-requires-clause-given
hear_one-requires-clause-given g c =
    let numbers = c.args.numbers.now in
    let i = c.loop-number.number-index in
    given_still (get_or numbers i 0) c.args.tables.now c.loop-number.tables c.loop-number.invariant.keys_are (c.requires.given i 0 (omega arith))

-- after one transaction more has heard the event, the outcome is the first trouble of those that have heard it
pub loop-number-preserved : goal.loop-number-preserved
loop-number-preserved g c =
    let numbers = c.args.numbers.now in
    let event = c.args.event.now in
    let i = c.loop-number.number-index in
    let heard = c.in_ok-hear_one.ensures in
    let old = c.loop-number.invariant in
    -- the tables are those after this transaction has heard the event
    record {
      times_are = heard.times ∙ old.times_are;
      keys_are = heard.keys ∙ old.keys_are;
      may = heard.may;
      -- the transactions up to this one have heard the event, with the outcome so far
      heard = subst (λ o. HearsEach c.args.book.now event (take (i + 1) numbers) c.args.tables.now c.args.others c.hear_one.new.tables o) (sym c.first-outcome.ensures)
          (subst (λ ns. HearsEach c.args.book.now event ns c.args.tables.now c.args.others c.hear_one.new.tables (first_of c.loop-number.outcome c.in_ok-hear_one.field-0)) (sym (take_more numbers i 0 (omega arith)))
          (hears_more c.args.book.now event (take i numbers) (get_or numbers i 0) c.args.tables.now c.loop-number.tables c.hear_one.new.tables c.args.others c.loop-number.outcome c.in_ok-hear_one.field-0 old.heard heard.heard));
    }
