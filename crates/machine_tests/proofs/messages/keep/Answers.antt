use Rattle.std.specs.Prelude.{◌<◌}
use Rattle.std.proofs.Common.{inl, inr, arith}
use Rattle.sip_machine.proofs.texts.TextLaws.{Keeps-grow_cases}
use Rattle.machine_tests.proofs.Errors.{always_err}
use Rattle.machine_tests.proofs.messages.keep.Goals as goal

-- each number of the book is below the next one
-- By cases of `add`: the book had the bytes already (`same`), or has them now under the new number (`grown`). A number of the grown book is
-- an old one (`old`), or that number (`is`).
pub returns-clause-ok : goal.returns-clause-ok
returns-clause-ok c = λ n keeps.
    elim c.in_ok-add.ensures.grows [
      | inl same ↦ let low : n < c.args.number = c.requires n (rw same.0 at keeps) in omega (arith, low)
      | inr grown ↦
          elim (Keeps-grow_cases c.args.book.now c.args.number c.args.bytes.now n (rw grown.0 at keeps)) [
            | inl old ↦ let low : n < c.args.number = c.requires n old in omega (arith, low)
            | inr is ↦ omega (arith, is)
          ]
    ]

-- where memory is refused, the book has no new number
pub returns-in_err-add-clause-err : goal.returns-in_err-add-clause-err
returns-in_err-add-clause-err c = always_err c.from_residual.result (λ n keeps. c.requires n (rw c.in_err-add.ensures.err at keeps))
