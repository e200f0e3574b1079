use Rattle.std.proofs.Common.{◌≡◌, ℕ, ◌<◌, true, get_or}
use Rattle.sip_text.specs.inner.Class.{is_in}
use Rattle.sip_text.proofs.class.run_len.Given as goal

-- each byte of the text before the index is in the class
abbrev pub invariant-loop-at : goal.invariant-loop-at
invariant-loop-at l = (k : ℕ) → k < l.at → is_in l.class (get_or l.text k 0) ≡ true
