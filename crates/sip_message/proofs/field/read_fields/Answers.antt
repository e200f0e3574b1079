-- `c.lines.invariant`: .0, the fields are those of the lines that were read, whatever lines the text is; .1, what is kept is what the first Via and the first
-- CSeq of these fields say.
use Rattle.std.proofs.Common.{◌+◌, ◌∷◌, [], map, sym, ap, ◌∙◌, subst, arith}
use Rattle.std.proofs.lemmas.List.{map-append, length-map}
use Rattle.sip_standard.specs.Outcome.{stops}
use Rattle.sip_message.specs.inner.Faults.{FieldOf, FieldsOf}
use Rattle.sip_message.specs.inner.Views.{field_parts, fields_parts}
use Rattle.sip_message.specs.inner.Settles.{outcome_of}
use Rattle.std.specs.Global.{Vec}
use Rattle.sip_message.specs.declared.field.Field.{Field as Code}
use Rattle.sip_message.specs.declared.kept.Kept.{Kept}
use Rattle.sip_message.specs.inner.Kept.{KeptOf}
use Rattle.sip_message.proofs.lemmas.lines.Reading.{SoFar, so_far-all, so_far-more, so_far-stops, settles-fault}
use Rattle.sip_message.proofs.field.read_fields.Goals as goal

-- where one line is no field, its fault is the fault of the fields
pub returns-in_err-field-clause-fields : goal.returns-in_err-field-clause-fields
returns-in_err-field-clause-fields c lines are =
    -- `line` is the line that is no field, by this fault, and `fields` are those before it
    let fault = c.in_err-field.field-0.0 in
    let line = c.in-Some.line.now in
    let fields = fields_parts c.lines.fields in
    let field = subst (λ r. FieldOf (c.len.result + 1) line (outcome_of field_parts r)) c.in_err-field.was c.read_field.ensures.field in
    settles-fault (FieldsOf 1 lines) (λ (read : Vec Code × Kept). fields_parts read.0) c.from_residual-in_err-field.result fault c.from_residual-in_err-field.ensures.0 c.from_residual-in_err-field.ensures.1
    (so_far-stops lines c.lines.rest.now line c.in-Some.more.now fields fault (c.lines.invariant.0 lines are) c.in-Some.ensures
    (subst (λ n. FieldOf n line (stops fault)) (omega (arith, c.len.ensures, length-map c.lines.fields.items field_parts)) field))

-- after one line more, the fields are those of the lines up to it
pub lines-preserved : goal.lines-preserved
lines-preserved c =
    -- field is the field that was read, and `more` says that the fields now are those before and this one
    let field = field_parts c.in_ok-field.field in
    let more = sym (ap (map field_parts) c.in_default-push.ensures.items ∙ map-append field_parts c.lines.fields.items (c.in_ok-field.field ∷ [])) in (
      (λ lines are.
          subst (SoFar lines c.in-Some.more.now) more
          (so_far-more lines c.lines.rest.now c.in-Some.line.now c.in-Some.more.now (fields_parts c.lines.fields) field (c.len.result + 1) (c.lines.invariant.0 lines are) c.in-Some.ensures c.in_ok-field.ensures.field)),
      subst (λ fs. KeptOf fs c.read_field.new.kept) more (c.in_ok-field.ensures.kept (fields_parts c.lines.fields) c.lines.invariant.1),
    )

-- all lines were read, so the fields are those of all lines
pub returns-clause-fields : goal.returns-clause-fields
returns-clause-fields c lines are = so_far-all lines c.lines.rest.now (fields_parts c.lines.fields) (c.lines.invariant.0 lines are) c.in_default.ensures
