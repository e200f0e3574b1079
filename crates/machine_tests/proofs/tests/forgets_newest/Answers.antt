use Rattle.std.specs.Prelude.{◌<◌, ◌≤◌}
use Rattle.std.proofs.Common.{inl, inr, arith}
use Rattle.sip_machine.proofs.texts.TextLaws.{Keeps-grow_cases}
use Rattle.machine_tests.proofs.tests.forgets_newest.Goals as goal

-- The test keeps the numbers 3 and 5, forgets three times (`c.forget-3` is the last), and then adds 8 and 9.

-- the numbers of the book are at most 3, so the next one is above them
pub keep-requires-2 : goal.keep-requires-2
keep-requires-2 g c = λ n keeps. let low : n ≤ 3 = c.in_ok-keep.ensures.ok n keeps in omega (arith, low)

-- the numbers of the book are at most 5, so the next one is above them
pub add-requires : goal.add-requires
add-requires g c = λ n keeps. let low : n ≤ 5 = c.forget-3.ensures n keeps in omega (arith, low)

-- each number of the book is below the one that comes next
-- The bytes of the ACK were kept before (`same`), or it is the newest message, with the number 8 (`grown`): each number is an old one (`old`) or
-- 8 (`is`). Either way 9 is above all numbers.
pub add-requires-2 : goal.add-requires-2
add-requires-2 g c = λ n keeps.
    elim c.in_ok-add.ensures.grows [
      | inl same ↦ let low : n ≤ 5 = c.forget-3.ensures n (rw same.0 at keeps) in omega (arith, low)
      | inr grown ↦
          elim (Keeps-grow_cases c.forget-3.new.book 8 _ n (rw grown.0 at keeps)) [
            | inl old ↦ let low : n ≤ 5 = c.forget-3.ensures n old in omega (arith, low)
            | inr is ↦ omega (arith, is)
          ]
    ]
