use Rattle.std.proofs.Common.{sym, subst}
use Rattle.sip_standard.specs.Body.{BodySays}
use Rattle.sip_message.specs.declared.name.Known.TheVariants as known_name
use Rattle.sip_message.specs.inner.Views.{slice_fields}
use Rattle.sip_message.specs.ValueParts.{start_parts}
use Rattle.sip_message.specs.inner.Fronts.{text_parts}
use Rattle.sip_message.specs.inner.Settles.{outcome_of}
use Rattle.sip_message.specs.inner.Stages.{names_parts}
use Rattle.sip_message.proofs.lemmas.asked.Parts.{row-of, first-value}
use Rattle.sip_message.proofs.lemmas.message.Body.{length-none, length-some}
use Rattle.sip_message.proofs.stages.read_body.Goals as goal

-- the value of Content-Length is digits
pub body_by_length-requires-clause-digits : goal.body_by_length-requires-clause-digits
body_by_length-requires-clause-digits c =
    -- the field that was found is the first of its name, whose row is digits
    let fields = slice_fields c.args.fields in
    row-of known_name.ContentLength fields c.in-Some.digits.now c.requires.rows (first-value known_name.ContentLength fields (c.in-Some.field-0-1, c.in-Some.digits.now) (_, c.in-Some.ensures.found))

-- where the message has a Content-Length, the body is read by it
pub returns-in-Some : goal.returns-in-Some
returns-in-Some c =
    -- the length that the fields have is the number of the field that was found
    subst (λ len. BodySays (start_parts c.args.start) ((names_parts c.args.named).1) ((names_parts c.args.named).0.1) len c.args.rest.now (outcome_of text_parts c.body_by_length.result))
    (sym (length-some (slice_fields c.args.fields) _ _ c.in-Some.ensures.found)) c.body_by_length.ensures

-- where the message has no Content-Length, the body is what the transport leaves
pub returns-in-None : goal.returns-in-None
returns-in-None c =
    -- no field of that name was found, so the fields have no length
    subst (λ len. BodySays (start_parts c.args.start) ((names_parts c.args.named).1) ((names_parts c.args.named).0.1) len c.args.rest.now (outcome_of text_parts c.body_by_length-in-None.result))
    (sym (length-none (slice_fields c.args.fields) c.in-None.ensures.found)) c.body_by_length-in-None.ensures
