use Rattle.std.proofs.Common.{◌≡◌, ◌++◌, take, string_bytes, IsAscii}
use Rattle.sip_listing.proofs.transaction.push_ascii.Given as goal

-- the bytes so far were appended, where all bytes are ASCII
abbrev pub invariant-loop-byte : goal.invariant-loop-byte
invariant-loop-byte l = IsAscii l.bytes → string_bytes l.text ≡ string_bytes l.fn.text ++ take l.byte-index l.bytes
