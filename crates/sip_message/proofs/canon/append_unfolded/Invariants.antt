use Rattle.sip_message.proofs.lemmas.canon.Unfolding.{Unfolding}
use Rattle.sip_message.proofs.canon.append_unfolded.Given as goal

-- the text up to `from` was appended, with each fold made one SP; from there up to `at` stand blanks
abbrev pub invariant-bytes : goal.invariant-bytes
invariant-bytes l = Unfolding l.fn.out.items l.text l.from l.at l.out.items
