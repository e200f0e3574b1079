use Rattle.std.proofs.Common.{◌-◌, length}
use Rattle.sip_message.proofs.WordLemmas.{WordsSoFar}
use Rattle.sip_message.proofs.address.cut_words.Given as goal

-- the bytes of the text before the index are words, and no token goes on after them
abbrev pub invariant-words : goal.invariant-words
invariant-words l = WordsSoFar l.text l.at

-- each turn of the loop goes on in the text, and the text ends
abbrev pub decreases-words : goal.decreases-words
decreases-words l = length l.text - l.at
