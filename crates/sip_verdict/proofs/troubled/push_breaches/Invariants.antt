use Rattle.std.proofs.Common.{◌≡◌, ◌++◌, map, take}
use Rattle.sip_verdict.specs.declared.finding.Finding.TheVariants.{Breach}
use Rattle.sip_verdict.proofs.troubled.push_breaches.Given as goal

-- a breach was appended for each number so far
abbrev pub invariant-loop-number : goal.invariant-loop-number
invariant-loop-number l = l.found.items ≡ l.initial.found.items ++ map (λ transaction. Breach l.entry transaction) (take l.number-index l.numbers)
