use Rattle.std.proofs.Common.{◌-◌, length}
use Rattle.sip_message.specs.inner.Views.{fields_parts}
use Rattle.sip_message.specs.inner.Asked.{AskedOf}
use Rattle.sip_message.proofs.QuickLemmas.{LinesSoFar}
use Rattle.sip_message.proofs.quick.ordinary_fields.Given as goal

-- the fields are those of the lines from `from` up to `at`, and what is kept of them is what is asked for
abbrev pub invariant-lines : goal.invariant-lines
invariant-lines l = LinesSoFar l.masks l.from l.at (fields_parts l.fields) × AskedOf (fields_parts l.fields) l.asked

-- each turn of the loop takes a line, and the text ends
abbrev pub decreases-lines : goal.decreases-lines
decreases-lines l = length l.masks - l.at
