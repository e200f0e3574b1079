use Rattle.std.proofs.Common.{◌≡◌, ◌++◌, take, map, string_bytes}
use Rattle.sip_standard.specs.StateLines.{indented}
use Rattle.sip_listing.proofs.lines.push_indented.Given as goal

-- the lines so far were appended, each indented
abbrev pub invariant-loop-line : goal.invariant-loop-line
invariant-loop-line l = string_bytes l.text ≡ string_bytes l.fn.text ++ indented (map string_bytes (take l.line-index l.lines))
