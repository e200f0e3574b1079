use Rattle.std.proofs.Common.{◌≡◌, ◌∙◌, Ok, Err, true, false, not, decimal, ap, sym, arith}
use Rattle.std.proofs.lemmas.Slice.Eq.{bytes_eq-Decides}
use Rattle.std.proofs.lemmas.Fmt.{parse-decimal}
use Rattle.sip_program.proofs.asking.entry_number.Goals.{then-number-lt-LEAST-via-then-number-lt-LEAST, then-number-lt-LEAST-via-else-number-lt-LEAST+then-number-gt-MOST, then-number-lt-LEAST-via-else-number-lt-LEAST+else-number-gt-MOST+then-ne}
use Rattle.sip_program.proofs.asking.entry_number.Goals as goal

-- In both answers `entry` is a number that the word is said to be the plain spelling of (`same`), within the limits (`is`), and that is refuted.

-- the word is no number of 64 bits
pub returns-in_default : goal.returns-in_default
returns-in_default c = λ entry is same.
    let read = parse-decimal 64 entry c.args.word.now c.parse.result (omega (arith, is.1)) (omega (arith, is.1)) same c.parse.ensures.value.0 in
    let never : Err c.in_default.field-0 ≡ Ok entry = sym c.in_default.is ∙ read in
    cc

-- a number out of its limits, or with another spelling than the plain one, is no number of an entry
pub returns-then-number-lt-LEAST : goal.returns-then-number-lt-LEAST
returns-then-number-lt-LEAST c = λ entry is same.
    -- `parse` reads the plain spelling of the entry's number as that number
    let read = parse-decimal 64 entry c.args.word.now c.parse.result (omega (arith, is.1)) (omega (arith, is.1)) same c.parse.ensures.value.0 in
    let one : c.in-Ok.number ≡ entry = (let both : Ok c.in-Ok.number ≡ Ok entry = sym c.in-Ok.is ∙ read in cc) in
    -- each of the three ways here says that the number is below the least, is above the most, or is not what the word spells
    elim c.then-number-lt-LEAST.branch [
      | then-number-lt-LEAST-via-then-number-lt-LEAST w ↦ omega (arith, one, is.0, w.if-number-lt-LEAST.true)
      | then-number-lt-LEAST-via-else-number-lt-LEAST+then-number-gt-MOST w ↦ omega (arith, one, is.1, w.if-number-gt-MOST.true)
      | then-number-lt-LEAST-via-else-number-lt-LEAST+else-number-gt-MOST+then-ne w ↦
          (let eq = (bytes_eq-Decides w.format.result.now c.args.word.now).1 (w.format.ensures.text ∙ ap decimal one ∙ sym same) in let never : true ≡ false = w.if-ne.ensures ∙ ap not eq in cc)
    ]
