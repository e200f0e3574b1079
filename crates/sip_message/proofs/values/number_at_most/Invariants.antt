use Rattle.sip_message.proofs.lemmas.value.Number.{ReadsNumber}
use Rattle.sip_message.proofs.values.number_at_most.Given as goal

-- the digits before the index write the number, which is at most `most`
abbrev pub invariant-loop-byte : goal.invariant-loop-byte
invariant-loop-byte l = ReadsNumber l.text l.byte-index l.number l.most
