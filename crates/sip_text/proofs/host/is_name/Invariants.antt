use Rattle.std.proofs.Common.{◌≡◌, length}
use Rattle.sip_text.specs.Bytes.{dot}
use Rattle.sip_text.specs.inner.Cut.{parts}
use Rattle.sip_text.specs.inner.HostTests.{are_labels}
use Rattle.sip_text.proofs.host.is_name.Given as goal

-- the labels so far pass, so that the whole text is a name exactly if the rest is one
abbrev pub invariant-labels : goal.invariant-labels
invariant-labels l = are_labels (parts dot l.rest) ≡ are_labels (parts dot l.text)

-- what is left gets shorter in each turn of the loop
abbrev pub decreases-labels : goal.decreases-labels
decreases-labels l = length l.rest
