use Rattle.std.proofs.Common.{◌≡◌, ◌++◌, map, take, drop}
use Rattle.c_siptrace.specs.Plain.{plain_finding}
use Rattle.c_siptrace.proofs.surveying.hand_out.Given as goal

-- the first `place` findings stand in the room, which is else as it was
abbrev pub invariant-loop-place : goal.invariant-loop-place
invariant-loop-place l = l.room ≡ map plain_finding (take l.place l.found) ++ drop l.place l.fn.room
