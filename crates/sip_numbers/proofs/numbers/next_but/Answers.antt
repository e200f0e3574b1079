use Rattle.std.proofs.Common.{arith, refl}
use Rattle.std.proofs.lemmas.Grind.{elements}
use Rattle.sip_numbers.proofs.BothLemmas.{first-left, more}
use Rattle.sip_numbers.proofs.PlaceLemmas.{none-has}
use Rattle.sip_numbers.proofs.numbers.next_but.Goals as goal

-- the words before the first place are of lesser blocks
pub loop-at-init : goal.loop-at-init
loop-at-init c n after has _ = grind (arith, elements, none-has)

-- a number that is left of the word is the first one
pub returns-in-Some-clause-found : goal.returns-in-Some-clause-found
returns-in-Some-clause-found c =
    first-left _ _ _ _ _ _ _ _ c.loop-at.invariant (omega arith) refl c.bits_of-in-loop-at.type_inv c.bits_of.ensures
    c.bits_of-in-loop-at.ensures c.requires.words c.in-Some.ensures.found

-- where none is left, the word is passed
pub loop-at-preserved : goal.loop-at-preserved
loop-at-preserved c n after =
    more _ _ _ _ _ _ _ _ c.loop-at.invariant (omega arith) refl c.bits_of-in-loop-at.type_inv c.bits_of.ensures
    c.bits_of-in-loop-at.ensures n after (c.in_default.ensures.none n after)
