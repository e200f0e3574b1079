use Rattle.sip_text.proofs.uris.UriPortLemmas.{ReadsDigits}
use Rattle.sip_text.proofs.uri.is_port.Given as goal

-- each byte before the index is a digit, and these digits write the number
abbrev pub invariant-loop-byte : goal.invariant-loop-byte
invariant-loop-byte l = ReadsDigits l.text l.byte-index l.number
