use Rattle.sip_standard.specs.Field.{OneOf}
use Rattle.sip_message.specs.inner.Finds.{found_parts}
use Rattle.sip_message.specs.inner.Views.{slice_fields}
use Rattle.sip_message.proofs.lemmas.field.Named.{stops-there, once-absent, once-twice, once-one}
use Rattle.sip_message.proofs.stages.find_once.Goals as goal
use Rattle.sip_message.specs.inner.MessageText.{found}

-- where no field has the name, the fault is that it is missing
pub returns-in_err-value : goal.returns-in_err-value
returns-in_err-value c =
    let fault = c.in_err-value.field-0.0 in
    stops-there found_parts (OneOf (found c.args.name (slice_fields c.args.fields))) c.from_residual.result fault c.from_residual.ensures.0 c.from_residual.ensures.1
    (once-absent c.args.name (slice_fields c.args.fields) fault c.in_err-value.ensures.present)

-- where two fields have the name, the fault is that it is repeated
pub returns-in-Some : goal.returns-in-Some
returns-in-Some c = once-twice c.args.name (slice_fields c.args.fields) _ _ c.in_ok-value.ensures.found c.in-Some.ensures.found

-- where one field has the name, it is the one that is found
pub returns-in-None : goal.returns-in-None
returns-in-None c = once-one c.args.name (slice_fields c.args.fields) _ c.in_ok-value.ensures.found c.in-None.ensures.found
