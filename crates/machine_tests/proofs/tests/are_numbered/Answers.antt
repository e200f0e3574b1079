use Rattle.std.proofs.Common.{◌+◌, inl, inr, arith}
use Rattle.sip_machine.proofs.texts.TextLaws.{Keeps-grow_cases}
use Rattle.machine_tests.proofs.tests.are_numbered.Goals as goal

-- Of each number `n` of the book it is shown that it is below the sum of `first` and how many messages were added. `same`: the bytes were there.
-- `more`: the book has one message more, and `n` is an old number (`old`) or that of the new message (`new`).

-- the messages of the book have numbers below the first one
pub loop-place-init : goal.loop-place-init
loop-place-init c n keeps = let low = c.requires.above n keeps in omega (arith, low)

-- each number of the book is one that was given so far
pub loop-place-preserved : goal.loop-place-preserved
loop-place-preserved c n keeps = elim c.in_ok-right.ensures.grows [
  | inl same ↦ let low = c.loop-place.invariant n (rw same.0 at keeps) in omega (arith, low)
  | inr more ↦ elim (Keeps-grow_cases c.loop-place.book (c.args.first + c.loop-place.place) c.deref.result.now n (rw more.0 at keeps)) [
    | inl old ↦ let low = c.loop-place.invariant n old in omega (arith, low)
    | inr new ↦ omega (arith, new)
  ]
]

-- all messages were added
pub returns : goal.returns
returns c n keeps = let low = c.loop-place.invariant n keeps in omega (arith, c.loop-place-test.false)
