use Rattle.std.proofs.Common.{◌-◌, ◌≤◌, length}
use Rattle.sip_message.proofs.lemmas.lines.HeadEnd.{NoneSoFar}
use Rattle.sip_message.proofs.stages.find_double_end.Given as goal

-- no CRLF CRLF begins before the byte that stands before `from`
abbrev pub invariant-feeds : goal.invariant-feeds
invariant-feeds l = (l.from ≤ length l.bytes) × NoneSoFar l.bytes l.from

-- each turn of the loop goes on in the bytes, and they end
abbrev pub decreases-feeds : goal.decreases-feeds
decreases-feeds l = length l.bytes - l.from
