use Rattle.std.proofs.Common.{◌≡◌, ◌++◌, replicate}
use Rattle.sip_key.proofs.key.push_length.Given as goal

-- each turn so far has put one byte 64 after the text, which says that the length goes on
abbrev pub invariant-loop : goal.invariant-loop
invariant-loop l = l.text.items ≡ l.fn.text.items ++ replicate l.counter 64
