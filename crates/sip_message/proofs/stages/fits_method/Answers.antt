use Rattle.sip_message.specs.ValueParts.{cseq_parts}
use Rattle.sip_message.proofs.lemmas.message.Body.{method-some}
use Rattle.sip_message.proofs.lemmas.value.CSeq.{same-cseq}
use Rattle.sip_message.proofs.stages.fits_method.Goals as goal

-- the method of CSeq fits a request exactly if it has the bytes of the request's method
pub returns-in-Request : goal.returns-in-Request
returns-in-Request c = λ text is.
    method-some c.args.start c.in-Request.method c.in-Request.uri text c.args.cseq.number c.args.cseq.method.now c.eq.result c.in-Request.is (is, (λ x other. same-cseq text x (cseq_parts c.args.cseq) other is)) c.eq.ensures
