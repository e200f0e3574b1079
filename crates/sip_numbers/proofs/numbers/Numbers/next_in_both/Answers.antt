use Rattle.std.proofs.Math.Bool.{and-true}
use Rattle.sip_numbers.specs.Numbers.{numbers_of}
use Rattle.sip_numbers.proofs.numbers.Numbers.next_in_both.Goals as goal

-- no number is in the empty set
pub returns : goal.returns
unfolding numbers_of
returns c = rw (← c.self.view_is, ← c.other.view_is, ← c.deref.ensures.value, ← c.deref-2.ensures.value) (simp and-true at c.next_but.ensures)
