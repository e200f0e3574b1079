use Rattle.std.proofs.Common.{◌≡◌, take}
use Rattle.sip_machine.proofs.book.retain.set_aside.Given as goal

-- the messages at the front, which are kept, are as they were
abbrev pub invariant-loop : goal.invariant-loop
invariant-loop l = take l.left l.kept.items ≡ take l.left l.initial.kept.items
