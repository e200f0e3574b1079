use Rattle.std.proofs.Common.{◌≡◌, ℕ, ◌<◌, true, get_or}
use Rattle.std.specs.Char.{is_ascii_digit}
use Rattle.sip_message.proofs.values.digits_len.Given as goal

-- each byte of the text before the index is a digit
abbrev pub invariant-loop-at : goal.invariant-loop-at
invariant-loop-at l = (k : ℕ) → k < l.at → is_ascii_digit (get_or l.text k 0) ≡ true
