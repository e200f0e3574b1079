use Rattle.std.proofs.Common.{◌≡◌, ◌∙◌, true, false, Some, codes, map, string_bytes, sym, ap, subst, rules}
use Rattle.std.proofs.lemmas.List.{take_rest}
use Rattle.sip_survey_program.specs.Asked.{IsRestFor, begin_with}
use Rattle.sip_survey_program.proofs.AskedLemmas.{no_forget, split_first, with_forget, without_forget}
use Rattle.sip_survey_program.proofs.asking.asked.Goals as goal

-- the words do not begin with `--forget`
pub returns-then-not-names_forget : goal.returns-then-not-names_forget
returns-then-not-names_forget c =
    let other : begin_with (codes "--forget") (map string_bytes c.args.words.now) ≡ false = search rules in
    without_forget (map string_bytes c.args.words.now) c.rest_of.result other c.rest_of.ensures

-- In the next answers `names` says that the words begin with `--forget` and one word more, and `split` what they are then: these two, and others.

-- the word after `--forget` is no number below 2^32 (`in_err-age`), so the words ask for nothing
pub returns-in_err-age : goal.returns-in_err-age
returns-in_err-age c =
    let words = c.args.words.now in
    let names : begin_with (codes "--forget") (map string_bytes words) ≡ true = search rules in
    let split = split_first string_bytes (codes "--forget") words c.index-words-1.result names c.index-words-1.is in
    rw c.from_residual.ensures (no_forget (map string_bytes words) _ _ split (λ age low is. c.in_err-age.ensures age low (c.as_str.ensures.value ∙ is)))

-- the words are `--forget`, an age, and what the others ask for: those after the first two (`take_rest`), of which the second call of `rest_of` tells
pub returns : goal.returns
returns c =
    let words = c.args.words.now in
    let names : begin_with (codes "--forget") (map string_bytes words) ≡ true = search rules in
    let split = split_first string_bytes (codes "--forget") words c.index-words-1.result names c.index-words-1.is in
    let age = c.in_ok-age.ensures in
    with_forget (map string_bytes words) _ _ c.in_ok-age.age c.rest_of-2.result split age.0 (sym c.as_str.ensures.value ∙ age.1)
    (subst (λ ws. IsRestFor (Some c.in_ok-age.age) ws c.rest_of-2.result) (ap (map string_bytes) (take_rest words 2)) c.rest_of-2.ensures)
