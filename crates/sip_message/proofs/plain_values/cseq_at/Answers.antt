use Rattle.sip_message.specs.ValueParts.{cseq_parts}
use Rattle.sip_message.specs.inner.Plain.{segment}
use Rattle.sip_message.proofs.lemmas.value.CSeq.{same-cseq}
use Rattle.sip_message.proofs.plain_values.cseq_at.Goals as goal

-- a text has one CSeq at most, so this is the one
pub returns-in-Some : goal.returns-in-Some
returns-in-Some c =
    -- `is` says that the segment is this CSeq
    let is = c.in-Some.ensures in
    (is, (λ x other. same-cseq (segment c.args.at c.args.end c.args.masks.now) x (cseq_parts c.in-Some.cseq) other is))
