use Rattle.sip_message.specs.inner.Lines.{ArePaired}
use Rattle.sip_message.proofs.ends.is_clean.Given as goal

-- before the index a LF stands after each CR, and after no other byte
abbrev pub invariant-loop-at : goal.invariant-loop-at
invariant-loop-at l = ArePaired l.head 0 l.at
