use Rattle.std.proofs.Common.{take}
use Rattle.sip_numbers.specs.Numbers.{NoneInBoth, numbers_of}
use Rattle.sip_numbers.proofs.BothLemmas.{wanted}
use Rattle.sip_numbers.proofs.numbers.next_but.Given as goal

-- no number from `from` on of the words before `at` is in the second set and not in the third
abbrev pub invariant-loop-at : goal.invariant-loop-at
invariant-loop-at l = NoneInBoth (numbers_of (take l.at l.words)) (wanted l.other l.but) l.from
