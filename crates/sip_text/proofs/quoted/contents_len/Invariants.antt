use Rattle.std.proofs.Common.{◌≤◌, ◌-◌, length}
use Rattle.sip_standard.specs.Text.{Many}
use Rattle.sip_text.specs.Front.{HasFront}
use Rattle.sip_text.specs.inner.Quoted.{QuotedItem}
use Rattle.sip_text.proofs.quoted.contents_len.Given as goal

-- the bytes of the text before the index are pieces of a quoted string
abbrev pub invariant-items : goal.invariant-items
invariant-items l = record { within : l.at ≤ length l.text; front : HasFront (Many QuotedItem) l.text l.at }

-- each turn of the loop goes on in the text, and the text ends
abbrev pub decreases-items : goal.decreases-items
decreases-items l = length l.initial.text - l.at
