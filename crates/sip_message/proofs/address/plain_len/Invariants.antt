use Rattle.std.proofs.Common.{◌≡◌, ℕ, ◌<◌, true, get_or}
use Rattle.sip_message.specs.inner.AddressFronts.{is_unmarked_byte}
use Rattle.sip_message.proofs.address.plain_len.Given as goal

-- each byte of the text before the index may stand in a URI without `<`
abbrev pub invariant-loop-at : goal.invariant-loop-at
invariant-loop-at l = (k : ℕ) → k < l.at → is_unmarked_byte (get_or l.text k 0) ≡ true
