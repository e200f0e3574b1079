-- An ordinary head with all that is asked for, and a body, are a message.
-- `AskedOf` says that what is kept is what the fields say that are asked for, and `HasBody` that the demands on the method and the body give this body.
use Rattle.std.proofs.Common.{◌≡◌, ℕ, List, [], ◌∷◌, length, Option, Some, None, option_copied, refl, sym, ap, subst, arith}
use Rattle.std.specs.Borrow.{Bor}
use Rattle.sip_standard.specs.Body.{BodySays}
use Rattle.sip_message.specs.declared.asked.Asked.{Asked}
use Rattle.sip_message.specs.declared.name.Known.{Known}
use Rattle.sip_message.specs.declared.name.Known.TheVariants as known_name
use Rattle.sip_message.specs.declared.start_line.StartLine.{StartLine as Code}
use Rattle.sip_message.specs.declared.values.CSeq.{CSeq}
use Rattle.sip_message.specs.declared.via.Via.{Via}
use Rattle.sip_standard.specs.Via.{SaidVia}
use Rattle.sip_message.specs.Field.{Field, values}
use Rattle.sip_message.specs.inner.MessageText.{found, IsNotTwice}
use Rattle.sip_standard.specs.Outcome.{gives, passes}
use Rattle.sip_standard.specs.Field.{OneOf}
use Rattle.sip_message.specs.inner.Values.{CSeqValue}
use Rattle.sip_standard.specs.StartLine.{StartLine}
use Rattle.sip_standard.specs.Says.{IsFirstOf}
use Rattle.sip_message.specs.ValueParts.{start_parts, cseq_parts, element}
use Rattle.sip_message.specs.inner.Asked.{OnceSays, Itself, AskedOf}
use Rattle.sip_message.specs.inner.ElementFronts.{FirstVia}
use Rattle.sip_message.specs.inner.Quick.{IsOrdinary}
use Rattle.sip_message.specs.inner.Stages.{HasBody}
use Rattle.sip_message.proofs.lemmas.asked.Asked.{first-one, once-one, copied-one, said-length}
use Rattle.sip_message.proofs.lemmas.asked.Parts.{first-value}
use Rattle.sip_message.proofs.lemmas.message.Faults.{fields-read}
use Rattle.sip_message.proofs.lemmas.message.Stages.{Found}

-- the bytes are a message, and these are the first element of Via, the values of From, To and Call-ID, and the CSeq that are kept of it
-- e is that element, f, t and i are these values, and s is the number and the method of the CSeq
pub record IsWhole (bytes rest : List ℕ) (start : StartLine) (fields : List Field) (body : List ℕ) (e : SaidVia) (f t i : List ℕ) (s : ℕ × List ℕ) : Type 0 where
  pub first : List ℕ
  pub via : ℕ × List ℕ
  pub cseq : ℕ × List ℕ
  pub says_via : FirstVia (via.1) e
  pub says_cseq : CSeqValue (cseq.1) s
  pub found : Found bytes rest first start fields (record { via = via; from = f; to = t; call_id = i; cseq = cseq }) body

-- where one field of a name is found, the demand for the one field of the name gives it
once-is : (k : Known) (fields : List Field) (one : ℕ × List ℕ) → found k fields ≡ one ∷ [] → OneOf (found k fields) (gives one)
-- no second field stands there, and the first is this one
once-is k fields one is = passes tt (omega (arith, ap length is)) ([], is)

-- where something is kept of a name that stands at most once, the name stands at most once
not-twice : (k : Known) (fields : List Field) (o : Option (List ℕ)) → OnceSays Itself k fields o → IsNotTwice k fields
-- there is no field of the name
not-twice k fields None none = omega (arith, ap length none)
-- there is one
not-twice k fields (Some x) (one, is, says) = omega (arith, ap length is)

-- where one field of a name is found, its value is the first value of the name
value-is : (k : Known) (fields : List Field) (text : List ℕ) (one : ℕ × List ℕ) → found k fields ≡ one ∷ [] → text ≡ one.1 → IsFirstOf (values k fields) text
-- the first field that is found has this value
value-is k fields text one is same = subst (IsFirstOf (values k fields)) (sym same) (first-value k fields one ([], is))

-- an ordinary head of whose fields all that is asked for is kept, and a body, are a message
pub ordinary-whole : {bytes rest body : List ℕ} {fields : List Field} (start : Code) (a : Asked) (via : Via) (from to call_id : Bor (List ℕ)) (cseq : CSeq) → IsOrdinary bytes (start_parts start) fields rest → AskedOf fields a
    → a.via ≡ Some via → a.from ≡ Some from → a.to ≡ Some to → a.call_id ≡ Some call_id → a.cseq ≡ Some cseq → HasBody start via cseq (option_copied a.content_length) rest body
    → IsWhole bytes rest (start_parts start) fields body (element via) from.now to.now call_id.now (cseq_parts cseq)
ordinary-whole {rest = rest} {body = body} {fields = fields} start a via from to call_id cseq h of via_is from_is to_is call_id_is cseq_is has =
    -- v, f, t, i and c are what the fields Via, From, To, Call-ID and CSeq say, as it was kept
    let v = first-one FirstVia known_name.Via fields element a.via via via_is of.via in
    let f = copied-one known_name.From fields a.from from from_is of.from in
    let t = copied-one known_name.To fields a.to to to_is of.to in
    let i = copied-one known_name.CallId fields a.call_id call_id call_id_is of.call_id in
    let c = once-one CSeqValue known_name.CSeq fields cseq_parts a.cseq cseq cseq_is of.cseq in
    -- the head, the lines, the fields and the body are those of the message
    record {
      first = h.first;
      via = v.0;
      cseq = c.0;
      says_via = v.2;
      says_cseq = c.2;
      -- the head, its lines, the start line and the fields were found as an ordinary head has them
      found = record {
        head = h.head;
        others = h.others;
        is_begun = record { head_is = h.is_head; clean = h.no_bare; are_lines = h.are_lines };
        is_start = h.is_start;
        are_fields = fields-read 1 h.others fields h.are_fields;
        are_names =
            passes v.0 v.1 (passes f.0 (once-is known_name.From fields f.0 f.1) (passes t.0 (once-is known_name.To fields t.0 t.1) (passes i.0 (once-is known_name.CallId fields i.0 i.1) (passes c.0 (once-is known_name.CSeq fields c.0 c.1)
            (passes tt (not-twice known_name.ContentLength fields (option_copied a.content_length) of.content_length) refl)))));
        -- the body has the length that is said, and the named fields stand where they were found
        is_body = subst (λ len. BodySays (start_parts start) c.0 (v.0.1) len rest (gives body)) (said-length fields (option_copied a.content_length) of.content_length) (has v.0 c.0 v.2 c.2);
        stand = record {
          via = first-value known_name.Via fields v.0 v.1;
          from = value-is known_name.From fields from.now f.0 f.1 f.2;
          to = value-is known_name.To fields to.now t.0 t.1 t.2;
          call_id = value-is known_name.CallId fields call_id.now i.0 i.1 i.2;
          cseq = first-value known_name.CSeq fields c.0 ([], c.1);
        };
      };
    }
