use Rattle.std.proofs.Common.{◌≡◌, ℕ, ◌-◌, ◌<◌, ◌≤◌, true, get_or, length}
use Rattle.sip_text.specs.Bytes.{is_token_byte}
use Rattle.sip_text.proofs.token.token_len.Given as goal

-- each byte of the text before the index is a byte of a token
abbrev pub invariant-loop-at : goal.invariant-loop-at
invariant-loop-at l = (l.at ≤ length l.text) × ((k : ℕ) → k < l.at → is_token_byte (get_or l.text k 0) ≡ true)

-- each turn of the loop goes on in the text, and the text ends
abbrev pub decreases-loop-at : goal.decreases-loop-at
decreases-loop-at l = length l.text - l.at
