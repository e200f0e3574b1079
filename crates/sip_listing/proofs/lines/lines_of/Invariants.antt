use Rattle.std.proofs.Common.{◌≡◌, take, map, string_bytes}
use Rattle.sip_listing.specs.inner.StateLine.{state_line}
use Rattle.sip_listing.proofs.lines.lines_of.Given as goal

-- the lines are those of the states so far
abbrev pub invariant-loop-state : goal.invariant-loop-state
invariant-loop-state l = map string_bytes l.lines.items ≡ map state_line (take l.state-index l.states)
