use Rattle.sip_message.specs.inner.Canon.{fields_text}
use Rattle.sip_message.specs.inner.Views.{slice_fields}
use Rattle.sip_message.proofs.lemmas.canon.Fields.{appended-part}
use Rattle.sip_message.proofs.canon.append_fields.Goals as goal

-- where memory is refused, a part of the text was appended
pub returns-in_err-append_field : goal.returns-in_err-append_field
returns-in_err-append_field c = appended-part c.from_residual.result c.args.out.now.items _ _ _ (fields_text c.args.may_fold (slice_fields c.args.fields)) c.from_residual.ensures.0 c.fields.invariant c.in_err-append_field.ensures
