use Rattle.std.proofs.Common.{◌≤◌, ◌-◌, length}
use Rattle.sip_standard.specs.Text.{Many}
use Rattle.sip_text.specs.Front.{HasFront}
use Rattle.sip_text.specs.inner.Blanks.{Blank}
use Rattle.sip_text.proofs.blanks.skip_lws.Given as goal

-- the bytes of the text before the index are blanks
abbrev pub invariant-blanks : goal.invariant-blanks
invariant-blanks l = record { within : l.at ≤ length l.text; front : HasFront (Many Blank) l.text l.at }

-- each turn of the loop goes on in the text, and the text ends
abbrev pub decreases-blanks : goal.decreases-blanks
decreases-blanks l = length l.initial.text - l.at
