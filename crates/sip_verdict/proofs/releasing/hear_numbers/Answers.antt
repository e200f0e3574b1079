-- i is the place of the next number; `heard` is what the call for it promises, and `old` what held at the start of this turn of the loop.
use Rattle.std.proofs.Common.{◌+◌, ◌∙◌, drop, get_or, subst, arith}
use Rattle.sip_verdict.specs.inner.TablesTracking.{is_among}
use Rattle.sip_verdict.specs.inner.Surveying.{AreWatched, ArePassing}
use Rattle.sip_verdict.proofs.tables.TablesPassing.{given_still}
use Rattle.sip_verdict.proofs.surveys.found.Numbered.{next_number, next_apart, none_left, concerned_rest}
use Rattle.sip_verdict.proofs.releasing.hear_numbers.Goals as goal

-- the tables still have the number
pub hear_or_release-requires-clause-given : goal.hear_or_release-requires-clause-given
hear_or_release-requires-clause-given g c =
    let numbers = c.args.numbers.now in
    let i = c.loop-number.number-index in
    given_still (get_or numbers i 0) c.args.tables.now c.loop-number.tables c.loop-number.invariant.keys_are (c.requires.given i 0 (omega arith))

-- after one transaction more has heard the event or was released, those that are left in the list can hear it
pub loop-number-preserved : goal.loop-number-preserved
loop-number-preserved g c =
    let numbers = c.args.numbers.now in
    let event = c.args.event.now in
    let i = c.loop-number.number-index in
    let heard = c.in_ok-hear_or_release.ensures in
    let old = c.loop-number.invariant in
    -- the next number is that of the transaction that hears now
    -- `next` parts what is left of the list into this number and those after it
    let next = next_number numbers i (omega arith) in
    record {
      times_are = heard.times ∙ old.times_are;
      keys_are = heard.keys ∙ old.keys_are;
      long = heard.long;
      may = heard.may;
      -- the others of the list are still to hear the event
      watched = λ h. heard.watched (drop (i + 1) numbers) (subst (λ ns. AreWatched ns c.loop-number.tables c.loop-number.troubled) next (old.watched h));
      heard = λ p es e times late apart concerned h.
          heard.heard p es e (drop (i + 1) numbers) (old.times_are ∙ times) late (next_apart numbers i apart (omega arith))
          (concerned_rest c.args.book.now p es e event numbers i (get_or numbers i 0) next c.args.tables.now.keys c.loop-number.tables.keys old.keys_are concerned)
          (subst (λ ns. ArePassing c.args.book.now p es e (is_among ns) c.loop-number.tables c.loop-number.troubled) next (old.heard p es e times late apart concerned h));
    }

-- at the end of the loop none is still to hear the event
pub returns-clause-watched : goal.returns-clause-watched
returns-clause-watched g c = λ h.
    subst (λ ns. AreWatched ns c.loop-number.tables c.loop-number.troubled) (none_left c.args.numbers.now c.loop-number.number-index (omega arith)) (c.loop-number.invariant.watched h)

-- no number is left, so all have heard the event
pub returns-clause-heard : goal.returns-clause-heard
returns-clause-heard g c = λ p es e times late apart concerned h.
    subst (λ ns. ArePassing c.args.book.now p es e (is_among ns) c.loop-number.tables c.loop-number.troubled) (none_left c.args.numbers.now c.loop-number.number-index (omega arith))
    (c.loop-number.invariant.heard p es e times late apart concerned h)
