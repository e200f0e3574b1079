use Rattle.std.proofs.Common.{rules, map, refl, subst, sym}
use Rattle.std.specs.List.{AllByRecursion}
use Rattle.sip_standard.specs.Body.{BodySays}
use Rattle.sip_message.specs.declared.name.Known.TheVariants as known_name
use Rattle.sip_message.specs.inner.FieldText.{Row}
use Rattle.sip_message.proofs.lemmas.canon.Law.{fields-rows}
use Rattle.sip_message.proofs.lemmas.message.Faults.{read-fields}
use Rattle.sip_standard.specs.Outcome.{stops, gives, passes, stopped}
use Rattle.sip_standard.specs.Says.{IsFirstOf}
use Rattle.sip_message.specs.inner.Faults.{FieldsOf, NamesOf}
use Rattle.sip_message.specs.inner.MessageText.{content_length}
use Rattle.sip_message.specs.inner.Views.{field_parts, fields_parts}
use Rattle.sip_message.specs.ValueParts.{start_parts, cseq_parts, element}
use Rattle.std.specs.Global.{Vec}
use Rattle.sip_message.specs.declared.field.Field.{Field as Code}
use Rattle.sip_message.specs.declared.kept.Kept.{Kept}
use Rattle.sip_message.specs.inner.Stages.{names_parts, names_of, Stand}
use Rattle.sip_message.proofs.lemmas.asked.Kept.{via-some, via-is, cseq-some, cseq-is}
use Rattle.sip_message.proofs.lemmas.message.Stages.{begun, begins, settled, faulted, Found, found-keeps, found-reads}
use Rattle.sip_message.proofs.lemmas.says.Reading.{fault-says}
use Rattle.sip_message.specs.Field.{values}
use Rattle.sip_message.proofs.message.Message.whole.Goals as goal

-- without an empty line the bytes have no head, and this is their fault
pub returns-in_default : goal.returns-in_default
returns-in_default c = fault-says _ _ (stopped _ (c.in_default.ensures, refl) refl)

-- where the head has a line end of one byte, this is the fault of the bytes
pub returns-then-not-is_clean : goal.returns-then-not-is_clean
returns-then-not-is_clean c = fault-says _ _ (passes _ c.in-Some.ensures.0 (stopped _ ((λ _ clean. absurd (search rules)), refl) refl))

-- where the first line is no start line, this is the fault of the bytes
pub returns-in_default-read_start : goal.returns-in_default-read_start
returns-in_default-read_start c =
    -- b tells how the bytes begin: they have a head without bare line ends, and its lines
    let b = begins c.in-Some.ensures.0 (c.is_clean.ensures.0 c.if-not-is_clean.false) c.cut_first.ensures in
    fault-says _ _ (begun b.1 (stopped _ (c.in_default-read_start.ensures, refl) refl))

-- where a line of the head is at fault, this is the fault of the bytes
pub returns-in_err-fields : goal.returns-in_err-fields
returns-in_err-fields c =
    -- b tells how the bytes begin, and the start line was read
    let b = begins c.in-Some.ensures.0 (c.is_clean.ensures.0 c.if-not-is_clean.false) c.cut_first.ensures in
    settled (λ (read : Vec Code × Kept). fields_parts read.0) (FieldsOf 1 b.0) c.args.bytes.now c.in_err-fields.field-0.0 c.from_residual.result c.from_residual.ensures.0 c.from_residual.ensures.1 (c.in_err-fields.ensures.fields b.0 b.2)
    (λ fault stop. begun b.1 (passes _ c.in-Some-read_start.ensures.0 (stopped fault stop refl)))

-- where a named field is missing or stands twice, this is the fault of the bytes
pub returns-in_err-named : goal.returns-in_err-named
returns-in_err-named c =
    -- b tells how the bytes begin, and the start line and the fields were read
    let b = begins c.in-Some.ensures.0 (c.is_clean.ensures.0 c.if-not-is_clean.false) c.cut_first.ensures in
    let fault = c.in_err-named.field-0.0 in
    faulted c.args.bytes.now fault c.from_residual-in_err-named.result c.from_residual-in_err-named.ensures.0 c.from_residual-in_err-named.ensures.1
    (begun b.1 (passes _ c.in-Some-read_start.ensures.0 (passes _ (c.in_ok-fields.ensures.fields b.0 b.2)
    (stopped fault (subst (λ xs. NamesOf (map field_parts xs) (stops fault)) c.deref.ensures.value c.in_err-named.ensures.names) refl))))

-- where the body has a fault, and nothing before it has, this is the fault of the bytes
pub returns-in_err-body : goal.returns-in_err-body
returns-in_err-body c =
    -- b says how the bytes begin, as a message; each part before the body has no fault, and the fault of the body stops the reading
    let b = begins c.in-Some.ensures.0 (c.is_clean.ensures.0 c.if-not-is_clean.false) c.cut_first.ensures in
    let fault = c.in_err-body.field-0.0 in
    faulted c.args.bytes.now fault c.from_residual-in_err-body.result c.from_residual-in_err-body.ensures.0 c.from_residual-in_err-body.ensures.1
    (begun b.1 (passes _ c.in-Some-read_start.ensures.0 (passes _ (c.in_ok-fields.ensures.fields b.0 b.2)
    (passes (names_parts c.in_ok-named.named) (subst (λ xs. NamesOf (map field_parts xs) (gives (names_parts c.in_ok-named.named))) c.deref.ensures.value c.in_ok-named.ensures.names)
    (stopped fault (subst (λ xs. BodySays (start_parts c.in-Some-read_start.start) ((names_parts c.in_ok-named.named).1) ((names_parts c.in_ok-named.named).0.1) (content_length (map field_parts xs)) c.in-Some.rest.now (stops fault)) c.deref-2.ensures.value c.in_err-body.ensures) refl)))))

-- each field has a value that its row allows
pub read_body-requires-clause-rows : goal.read_body-requires-clause-rows
read_body-requires-clause-rows c =
    -- b tells how the bytes begin, and the fields are what is read of their lines
    let b = begins c.in-Some.ensures.0 (c.is_clean.ensures.0 c.if-not-is_clean.false) c.cut_first.ensures in
    subst (λ xs. AllByRecursion (λ f. Row f.name f.value) (map field_parts xs)) (sym c.deref-2.ensures.value) (fields-rows b.0 (fields_parts c.in_ok-fields.fields) (read-fields 1 b.0 (fields_parts c.in_ok-fields.fields) (c.in_ok-fields.ensures.fields b.0 b.2)))

-- the head has a Via, so its value was kept when its field was read
pub unwrap-via-requires : goal.unwrap-via-requires
unwrap-via-requires c =
    -- among the fields stands a first Via, so an element of it was kept
    via-some (fields_parts c.in_ok-fields.fields) c.in_ok-fields.kept c.in_ok-named.named.via.now c.in_ok-fields.ensures.kept (subst (λ xs. IsFirstOf (values known_name.Via (map field_parts xs)) c.in_ok-named.named.via.now) c.deref.ensures.value c.in_ok-named.ensures.stand.via)

-- the CSeq was kept when its field was read
pub unwrap-cseq-requires : goal.unwrap-cseq-requires
unwrap-cseq-requires c =
    -- among the fields stands a first CSeq, so its number and method were kept
    cseq-some (fields_parts c.in_ok-fields.fields) c.in_ok-fields.kept c.in_ok-named.named.cseq.now c.in_ok-fields.ensures.kept (subst (λ xs. IsFirstOf (values known_name.CSeq (map field_parts xs)) c.in_ok-named.named.cseq.now) c.deref.ensures.value c.in_ok-named.ensures.stand.cseq)

-- what was kept of the Via is what its field says
pub read_body-requires-clause-via : goal.read_body-requires-clause-via
read_body-requires-clause-via c =
    -- the element that was kept is the first of the first Via
    via-is (fields_parts c.in_ok-fields.fields) c.in_ok-fields.kept c.in_ok-named.named.via.now c.unwrap-via.result c.in_ok-fields.ensures.kept (subst (λ xs. IsFirstOf (values known_name.Via (map field_parts xs)) c.in_ok-named.named.via.now) c.deref.ensures.value c.in_ok-named.ensures.stand.via) c.unwrap-via.ensures

-- what was kept of the CSeq is what its field says
pub read_body-requires-clause-cseq : goal.read_body-requires-clause-cseq
read_body-requires-clause-cseq c =
    -- the number and the method that were kept are those of the first CSeq
    cseq-is (fields_parts c.in_ok-fields.fields) c.in_ok-fields.kept c.in_ok-named.named.cseq.now c.unwrap-cseq.result c.in_ok-fields.ensures.kept (subst (λ xs. IsFirstOf (values known_name.CSeq (map field_parts xs)) c.in_ok-named.named.cseq.now) c.deref.ensures.value c.in_ok-named.ensures.stand.cseq) c.unwrap-cseq.ensures

-- what was found are the parts of the bytes, so a message can be made of them
pub new-requires-clause-keeps : goal.new-requires-clause-keeps
new-requires-clause-keeps c =
    -- b tells that the head has these lines; the other parts are what each call has found
    let b = begins c.in-Some.ensures.0 (c.is_clean.ensures.0 c.if-not-is_clean.false) c.cut_first.ensures in
    let found : Found c.args.bytes.now c.in-Some.rest.now c.cut_first.result.0.now (start_parts c.in-Some-read_start.start) (fields_parts c.in_ok-fields.fields) (names_of c.in_ok-named.named) c.in_ok-body.body.now = record {
      head = c.in-Some.head.now;
      others = b.0;
      is_begun = b.1;
      is_start = c.in-Some-read_start.ensures.0;
      are_fields = c.in_ok-fields.ensures.fields b.0 b.2;
      -- the named fields and the body are those of the bytes
      are_names = subst (λ xs. NamesOf (map field_parts xs) (gives (names_parts c.in_ok-named.named))) c.deref.ensures.value c.in_ok-named.ensures.names;
      is_body = subst (λ xs. BodySays (start_parts c.in-Some-read_start.start) ((names_parts c.in_ok-named.named).1) ((names_parts c.in_ok-named.named).0.1) (content_length (map field_parts xs)) c.in-Some.rest.now (gives c.in_ok-body.body.now)) c.deref-2.ensures.value c.in_ok-body.ensures;
      stand = subst (λ xs. Stand (map field_parts xs) (names_of c.in_ok-named.named)) c.deref.ensures.value c.in_ok-named.ensures.stand;
    } in
    found-keeps (element c.unwrap-via.result) (cseq_parts c.unwrap-cseq.result) found
    -- the element and the CSeq that were kept are what the first Via and the first CSeq say
    (via-is (fields_parts c.in_ok-fields.fields) c.in_ok-fields.kept c.in_ok-named.named.via.now c.unwrap-via.result c.in_ok-fields.ensures.kept (subst (λ xs. IsFirstOf (values known_name.Via (map field_parts xs)) c.in_ok-named.named.via.now) c.deref.ensures.value c.in_ok-named.ensures.stand.via) c.unwrap-via.ensures)
    (cseq-is (fields_parts c.in_ok-fields.fields) c.in_ok-fields.kept c.in_ok-named.named.cseq.now c.unwrap-cseq.result c.in_ok-fields.ensures.kept (subst (λ xs. IsFirstOf (values known_name.CSeq (map field_parts xs)) c.in_ok-named.named.cseq.now) c.deref.ensures.value c.in_ok-named.ensures.stand.cseq) c.unwrap-cseq.ensures)

-- what was found are the parts of the bytes, so the message is what the bytes are read as
pub returns : goal.returns
returns c =
    -- b tells that the head has these lines; the other parts are what each call has found
    let b = begins c.in-Some.ensures.0 (c.is_clean.ensures.0 c.if-not-is_clean.false) c.cut_first.ensures in
    let found : Found c.args.bytes.now c.in-Some.rest.now c.cut_first.result.0.now (start_parts c.in-Some-read_start.start) (fields_parts c.in_ok-fields.fields) (names_of c.in_ok-named.named) c.in_ok-body.body.now = record {
      head = c.in-Some.head.now;
      others = b.0;
      is_begun = b.1;
      is_start = c.in-Some-read_start.ensures.0;
      are_fields = c.in_ok-fields.ensures.fields b.0 b.2;
      -- the named fields and the body are those of the bytes
      are_names = subst (λ xs. NamesOf (map field_parts xs) (gives (names_parts c.in_ok-named.named))) c.deref.ensures.value c.in_ok-named.ensures.names;
      is_body = subst (λ xs. BodySays (start_parts c.in-Some-read_start.start) ((names_parts c.in_ok-named.named).1) ((names_parts c.in_ok-named.named).0.1) (content_length (map field_parts xs)) c.in-Some.rest.now (gives c.in_ok-body.body.now)) c.deref-2.ensures.value c.in_ok-body.ensures;
      stand = subst (λ xs. Stand (map field_parts xs) (names_of c.in_ok-named.named)) c.deref.ensures.value c.in_ok-named.ensures.stand;
    } in
    found-reads c.new.result found c.new.ensures.message c.new.ensures.parts
