-- How what was found is handed out into the room that there is for it.
use Rattle.std.specs.Prelude.{◌++◌, ℕ, List, length, map, take, drop, nat_le, if◌then◌else◌}
use Rattle.sip_verdict.specs.declared.finding.Finding.{Finding}
use Rattle.c_siptrace.specs.declared.plain_verdict.PlainVerdict.{PlainVerdict}
use Rattle.c_siptrace.specs.Plain.{plain_finding}
use Rattle.c_siptrace.specs.Status.{answered, no_room}

-- the room after the call: as many of the findings as it holds, from the first on, and after them what stood there before
abbrev pub handed : List Finding → List PlainVerdict → List PlainVerdict
handed found room = map plain_finding (take (length room) found) ++ drop (length found) room

-- what is answered for this many findings and this many places: that they have room, or that not all have
abbrev pub room_status : ℕ → ℕ → ℕ
room_status findings places = if nat_le findings places then answered else no_room
