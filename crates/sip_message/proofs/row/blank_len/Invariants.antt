use Rattle.std.proofs.Common.{◌≡◌, ℕ, ◌<◌, true, get_or}
use Rattle.sip_standard.specs.Field.{is_lws_byte}
use Rattle.sip_message.proofs.row.blank_len.Given as goal

-- each byte of the text before the index is a byte of a blank run
abbrev pub invariant-loop-at : goal.invariant-loop-at
invariant-loop-at l = (k : ℕ) → k < l.at → is_lws_byte (get_or l.text k 0) ≡ true
