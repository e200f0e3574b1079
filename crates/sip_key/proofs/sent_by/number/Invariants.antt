use Rattle.sip_text.proofs.uris.UriPortLemmas.{ReadsDigits}
use Rattle.sip_key.proofs.sent_by.number.Given as goal

-- each byte before the index is a digit, and these digits write the number
abbrev pub invariant-loop-digit : goal.invariant-loop-digit
invariant-loop-digit l = ReadsDigits l.digits l.digit-index l.number
