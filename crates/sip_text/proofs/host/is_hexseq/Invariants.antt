use Rattle.std.proofs.Common.{◌≡◌, length}
use Rattle.sip_text.specs.inner.HostTests.{is_hexseq}
use Rattle.sip_text.proofs.host.is_hexseq.Given as goal

-- the groups so far pass, so that the whole text is a hexseq exactly if the rest is one
abbrev pub invariant-groups : goal.invariant-groups
invariant-groups l = is_hexseq l.rest ≡ is_hexseq l.text

-- what is left gets shorter in each turn of the loop
abbrev pub decreases-groups : goal.decreases-groups
decreases-groups l = length l.rest
