use Rattle.std.proofs.Common.{◌-◌}
use Rattle.sip_message.specs.inner.AddressFronts.{Words}
use Rattle.sip_message.specs.inner.Plain.{LiesWithin}
use Rattle.sip_message.proofs.plain.past_words.Given as goal

-- words of a display name stand from `at` up to `to`
abbrev pub invariant-words : goal.invariant-words
invariant-words l = LiesWithin Words l.masks l.at l.end l.to

-- each turn of the loop comes nearer to `end`
abbrev pub decreases-words : goal.decreases-words
decreases-words l = l.end - l.to
