use Rattle.std.proofs.Common.{◌≡◌, ℕ, ◌+◌, ◌<◌, false}
use Rattle.sip_text.specs.inner.HostTests.{is_double_at}
use Rattle.sip_text.proofs.host.cut_double.Given as goal

-- no "::" begins before the byte that stands before the index
abbrev pub invariant-loop-at : goal.invariant-loop-at
invariant-loop-at l = (k : ℕ) → k + 1 < l.at → is_double_at l.text k ≡ false
