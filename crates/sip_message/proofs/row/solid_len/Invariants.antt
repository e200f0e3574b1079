use Rattle.std.proofs.Common.{◌≡◌, ℕ, ◌<◌, ◌≤◌, true, length, get_or}
use Rattle.sip_standard.specs.Field.{is_lws_byte}
use Rattle.sip_message.proofs.row.solid_len.Given as goal

-- each byte of the text from `len` on is a byte of a blank run
abbrev pub invariant-loop-len : goal.invariant-loop-len
invariant-loop-len l = record {
  within : l.len ≤ length l.text;
  blank : (k : ℕ) → l.len ≤ k → k < length l.text → is_lws_byte (get_or l.text k 0) ≡ true;
}

-- each turn of the loop takes one blank off the end
abbrev pub decreases-loop-len : goal.decreases-loop-len
decreases-loop-len l = l.len
