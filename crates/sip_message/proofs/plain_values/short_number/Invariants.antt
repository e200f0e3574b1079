use Rattle.sip_message.proofs.PlainValueLemmas.{ReadsShort}
use Rattle.sip_message.proofs.plain_values.short_number.Given as goal

-- the digits before the index write the number, and are at most nine
abbrev pub invariant-loop-byte : goal.invariant-loop-byte
invariant-loop-byte l = ReadsShort l.text l.byte-index l.number
