use Rattle.std.proofs.Common.{◌≤◌, ◌-◌, length}
use Rattle.sip_standard.specs.Text.{Many}
use Rattle.sip_text.specs.Front.{HasFront}
use Rattle.sip_message.proofs.lemmas.value.Other.{OtherItem}
use Rattle.sip_message.proofs.other.is_other.Given as goal

-- the text before the index is pieces of a value: bytes, blanks and folds
abbrev pub invariant-folds : goal.invariant-folds
invariant-folds l = record { within : l.at ≤ length l.text; front : HasFront (Many OtherItem) l.text l.at }

-- each turn of the loop goes on in the text, and the text ends
abbrev pub decreases-folds : goal.decreases-folds
decreases-folds l = length l.text - l.at
