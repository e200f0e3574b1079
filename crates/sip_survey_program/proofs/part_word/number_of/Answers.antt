use Rattle.std.proofs.Common.{◌≡◌, ◌∙◌, Ok, Err, true, false, not, ap, sym, arith}
use Rattle.std.specs.Prelude.{decimal}
use Rattle.std.proofs.lemmas.Slice.Eq.{bytes_eq-Decides}
use Rattle.std.proofs.lemmas.Fmt.{parse-decimal}
use Rattle.sip_survey_program.proofs.part_word.number_of.Goals as goal

-- In both answers `number` is a number that the word is said to spell plainly (`same`), and `read` says that `parse` reads such a word as this
-- number. That cannot be: `parse` has answered an error, or the number is spelled otherwise.

-- the word is no number of 32 bits
pub returns-in_default : goal.returns-in_default
returns-in_default c = λ number few same.
    let read = parse-decimal 32 number c.args.word.now c.parse.result few (omega (arith, few)) same c.parse.ensures.value.0 in
    let never : Err c.in_default.field-0 ≡ Ok number = sym c.in_default.is ∙ read in
    cc

-- a word that is not the plain spelling of its number is no number
pub returns-then-ne : goal.returns-then-ne
returns-then-ne c = λ number few same.
    let read = parse-decimal 32 number c.args.word.now c.parse.result few (omega (arith, few)) same c.parse.ensures.value.0 in
    let one : c.in-Ok.number ≡ number = (let both : Ok c.in-Ok.number ≡ Ok number = sym c.in-Ok.is ∙ read in cc) in
    let eq = (bytes_eq-Decides c.format.result.now c.args.word.now).1 (c.format.ensures.text ∙ ap decimal one ∙ sym same) in
    let never : true ≡ false = c.if-ne.ensures ∙ ap not eq in
    cc
