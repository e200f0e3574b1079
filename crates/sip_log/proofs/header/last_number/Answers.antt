-- Of the number that was read, .0 is the number, .1 says that it stands after the word, and .2 that the code keeps it.
use Rattle.std.proofs.Common.{◌≡◌, [], ap, length, subst, sym}
use Rattle.std.proofs.lemmas.Bool.{eqb-true, eqb-false}
use Rattle.std.proofs.lemmas.List.{nil_from_length}
use Rattle.sip_log.specs.inner.Header.{NumberAfter}
use Rattle.sip_log.proofs.headers.HeaderLemmas.{NumberAfter-one}
use Rattle.sip_log.proofs.header.last_number.Goals as goal

-- where no number stands after the word, the text is not the word and a number
pub returns-in_err-value : goal.returns-in_err-value
returns-in_err-value c = rw c.from_residual.ensures (λ n is. c.in_err-value.ensures n [] is)

-- something is left after the number, so the text is not a number alone
pub returns-then-not-is_empty : goal.returns-then-not-is_empty
returns-then-not-is_empty c = λ n is.
    let value = c.in_ok-value.ensures in
    let none : [] ≡ c.in_ok-value.rest.now = (NumberAfter-one c.args.word.now c.args.text.now n value.0 [] c.in_ok-value.rest.now is value.1).1 in
    eqb-false _ 0 (sym c.if-not-is_empty.ensures) (ap length (sym none))

-- where nothing follows the number, the text ends with it
pub returns : goal.returns
returns c =
    let value = c.in_ok-value.ensures in
    let none : c.in_ok-value.rest.now ≡ [] = nil_from_length _ (eqb-true _ 0 (sym c.if-not-is_empty.ensures)) in
    (value.0, subst (NumberAfter c.args.word.now c.args.text.now value.0) none value.1, value.2)
