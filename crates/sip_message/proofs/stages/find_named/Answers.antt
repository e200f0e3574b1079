use Rattle.std.proofs.Common.{refl}
use Rattle.sip_message.specs.declared.name.Known.TheVariants as known_name
use Rattle.sip_standard.specs.Outcome.{passes, stopped}
use Rattle.sip_message.specs.inner.Faults.{NamesOf}
use Rattle.sip_message.specs.inner.Stages.{names_parts}
use Rattle.sip_message.specs.inner.Views.{slice_fields}
use Rattle.sip_message.proofs.lemmas.asked.Parts.{first-value}
use Rattle.sip_message.proofs.lemmas.field.Named.{stops-there, once-first}
use Rattle.sip_message.proofs.stages.find_named.Goals as goal

-- where no Via stands in the head, this is the fault
pub returns-in_err-via-clause-names : goal.returns-in_err-via-clause-names
returns-in_err-via-clause-names c =
    -- nothing was asked before Via
    let fault = c.in_err-via.field-0.0 in
    stops-there names_parts (NamesOf (slice_fields c.args.fields)) c.from_residual.result fault c.from_residual.ensures.0 c.from_residual.ensures.1
    (stopped fault c.in_err-via.ensures.present refl)

-- where From is missing or stands twice, this is the fault
pub returns-in_err-from-clause-names : goal.returns-in_err-from-clause-names
returns-in_err-from-clause-names c =
    -- Via was found
    let fault = c.in_err-from.field-0.0 in
    stops-there names_parts (NamesOf (slice_fields c.args.fields)) c.from_residual-in_err-from.result fault c.from_residual-in_err-from.ensures.0 c.from_residual-in_err-from.ensures.1
    (passes _ c.in_ok-via.ensures.present (stopped fault c.in_err-from.ensures refl))

-- where To is missing or stands twice, this is the fault
pub returns-in_err-to-clause-names : goal.returns-in_err-to-clause-names
returns-in_err-to-clause-names c =
    -- Via and From were found
    let fault = c.in_err-to.field-0.0 in
    stops-there names_parts (NamesOf (slice_fields c.args.fields)) c.from_residual-in_err-to.result fault c.from_residual-in_err-to.ensures.0 c.from_residual-in_err-to.ensures.1
    (passes _ c.in_ok-via.ensures.present (passes _ c.in_ok-from.ensures (stopped fault c.in_err-to.ensures refl)))

-- where Call-ID is missing or stands twice, this is the fault
pub returns-in_err-call_id-clause-names : goal.returns-in_err-call_id-clause-names
returns-in_err-call_id-clause-names c =
    -- Via, From and To were found
    let fault = c.in_err-call_id.field-0.0 in
    stops-there names_parts (NamesOf (slice_fields c.args.fields)) c.from_residual-in_err-call_id.result fault c.from_residual-in_err-call_id.ensures.0 c.from_residual-in_err-call_id.ensures.1
    (passes _ c.in_ok-via.ensures.present (passes _ c.in_ok-from.ensures (passes _ c.in_ok-to.ensures (stopped fault c.in_err-call_id.ensures refl))))

-- where CSeq is missing or stands twice, this is the fault
pub returns-in_err-cseq-clause-names : goal.returns-in_err-cseq-clause-names
returns-in_err-cseq-clause-names c =
    -- Via, From, To and Call-ID were found
    let fault = c.in_err-cseq.field-0.0 in
    stops-there names_parts (NamesOf (slice_fields c.args.fields)) c.from_residual-in_err-cseq.result fault c.from_residual-in_err-cseq.ensures.0 c.from_residual-in_err-cseq.ensures.1
    (passes _ c.in_ok-via.ensures.present (passes _ c.in_ok-from.ensures (passes _ c.in_ok-to.ensures (passes _ c.in_ok-call_id.ensures (stopped fault c.in_err-cseq.ensures refl)))))

-- where Content-Length stands twice, this is the fault
pub returns-in_err-check_not_twice-clause-names : goal.returns-in_err-check_not_twice-clause-names
returns-in_err-check_not_twice-clause-names c =
    -- Via, From, To, Call-ID and CSeq were found
    let fault = c.in_err-check_not_twice.field-0.0 in
    stops-there names_parts (NamesOf (slice_fields c.args.fields)) c.from_residual-in_err-check_not_twice.result fault c.from_residual-in_err-check_not_twice.ensures.0 c.from_residual-in_err-check_not_twice.ensures.1
    (passes _ c.in_ok-via.ensures.present (passes _ c.in_ok-from.ensures (passes _ c.in_ok-to.ensures (passes _ c.in_ok-call_id.ensures (passes _ c.in_ok-cseq.ensures (stopped fault c.in_err-check_not_twice.ensures refl))))))

-- each named field was found, so there is no fault
pub returns-clause-names : goal.returns-clause-names
returns-clause-names c = passes _ c.in_ok-via.ensures.present (passes _ c.in_ok-from.ensures (passes _ c.in_ok-to.ensures (passes _ c.in_ok-call_id.ensures (passes _ c.in_ok-cseq.ensures (passes _ c.in_ok-check_not_twice.ensures refl)))))

-- what was found by name are the first Via and the one From, To, Call-ID and CSeq
pub returns-clause-stand : goal.returns-clause-stand
returns-clause-stand c =
    -- each first field has the first value of its name
    let fields = slice_fields c.args.fields in
    record {
      via = first-value known_name.Via fields _ c.in_ok-via.ensures.present;
      from = first-value known_name.From fields _ (once-first known_name.From fields _ c.in_ok-from.ensures);
      to = first-value known_name.To fields _ (once-first known_name.To fields _ c.in_ok-to.ensures);
      call_id = first-value known_name.CallId fields _ (once-first known_name.CallId fields _ c.in_ok-call_id.ensures);
      cseq = first-value known_name.CSeq fields _ (once-first known_name.CSeq fields _ c.in_ok-cseq.ensures);
    }
