-- The stages of reading, one after another.
-- In the lemmas n is the named fields that were found, e the first element of Via, and s the CSeq by its number and method.
-- `LinesOf` is the reading of a head's lines and of the body after them, `NamesOf` that of the named fields, and `BodySays` that of the body; `KeepsRead` says
-- what a message keeps of them.
use Rattle.std.proofs.Common.{◌≡◌, ℕ, List, false, refl, sym, subst}
use Rattle.std.specs.Prelude.{Result, Ok, Err, IsErr, IsErrAnd}
use Rattle.std.proofs.lemmas.Bool.{both_ways}
use Rattle.sip_standard.specs.declared.fault.Fault.{Fault}
use Rattle.sip_standard.specs.Body.{BodySays}
use Rattle.sip_message.specs.inner.Parts.{HasParts}
use Rattle.sip_message.specs.inner.Only.{IsOnly}
use Rattle.sip_message.specs.declared.fault.ReadError.{ReadError}
use Rattle.sip_message.specs.declared.fault.ReadError.TheVariants as error
use Rattle.sip_standard.specs.Lines.{CutSays, LinesSay}
use Rattle.sip_message.specs.inner.Lines.{HasNoBareEnd, AreLines}
use Rattle.sip_standard.specs.StartLine.{StartLine, StartSays}
use Rattle.sip_message.specs.Field.{Field}
use Rattle.sip_message.specs.Message.{Message}
use Rattle.sip_message.specs.inner.MessageText.{MessageText, content_length}
use Rattle.sip_standard.specs.Outcome.{Outcome, gives, stops, passes}
use Rattle.sip_message.specs.inner.Faults.{FieldsOf, NamesOf, LinesOf, ReadOf}
use Rattle.sip_message.specs.inner.Settles.{Settles}
use Rattle.sip_message.specs.Reading.{Reading, Parts}
use Rattle.sip_message.specs.inner.Kept.{Keeps, KeepsRead}
use Rattle.sip_message.specs.inner.Values.{CSeqValue}
use Rattle.sip_standard.specs.Via.{SaidVia}
use Rattle.sip_message.specs.inner.ElementFronts.{FirstVia}
use Rattle.sip_message.specs.Reads.{Reads, ReadsTo}
use Rattle.sip_message.specs.inner.Stages.{Names, Stand}
use Rattle.sip_message.proofs.lemmas.lines.OneWay.{head-lines}
use Rattle.sip_message.proofs.lemmas.message.Faults.{read-text}
use Rattle.sip_message.proofs.lemmas.asked.Parts.{has-parts}
use Rattle.sip_message.proofs.lemmas.asked.OneWay.{parts-one}
use Rattle.sip_message.proofs.lemmas.message.Views.{keeps-via, keeps-cseq}
use Rattle.sip_message.proofs.lemmas.via.Value.{one-first}
use Rattle.sip_message.proofs.lemmas.value.CSeq.{same-cseq}
use Rattle.sip_message.proofs.lemmas.says.Reading.{text-reads, fault-says}

-- the bytes have this head and this rest, the head has no bare line end, and these are its first line and the others
pub record IsBegun (bytes head rest first : List ℕ) (others : List (List ℕ)) : Type 0 where
  pub head_is : CutSays bytes (head, rest)
  pub clean : HasNoBareEnd head
  pub are_lines : LinesSay head first others

-- where the head and its lines are found, what the lines are read as is what the bytes are read as
pub begun : {bytes head rest first : List ℕ} {others : List (List ℕ)} {out : Outcome Message} → IsBegun bytes head rest first others → LinesOf rest first others out → ReadOf bytes out
-- the bytes are cut, the head is clean, and has these lines
begun {head = head} {rest = rest} {first = first} {others = others} b of_lines = passes (head, rest) b.head_is (passes tt b.clean (first, others, b.are_lines, of_lines))

-- where the head is found and has no bare line end, it has a first line and others, as the reader cuts them
pub begins : {bytes head rest first text : List ℕ} → CutSays bytes (head, rest) → HasNoBareEnd head → ((line : List ℕ) (others : List (List ℕ)) → LinesSay head line others → (line ≡ first) × AreLines text others)
    → (others : List (List ℕ)) × IsBegun bytes head rest first others × AreLines text others
begins {bytes = bytes} {head = head} {rest = rest} head_is clean cut =
    -- the head is lines, and its first one is what the reader cut off
    let lines = head-lines bytes head rest head_is in
    let parts = cut lines.0 lines.1 lines.2 in
    (lines.1, record { head_is = head_is; clean = clean; are_lines = subst (λ l. LinesSay head l lines.1) parts.0 lines.2 }, parts.1)

-- where a stage that takes memory fails, and the reading of the bytes stops with each fault of the stage, the bytes are read as its error
pub settled : {A X : Type 0} (parts : A → X) (S : Outcome X → Type 0) (bytes : List ℕ) (e : ReadError) (r : Result Reading ReadError) → IsErr r → IsErrAnd r (λ x. x ≡ e) → Settles S parts (Err e) → ((fault : Fault) → S (stops fault) → ReadOf bytes (stops fault)) → ReadsTo bytes r
-- the result would be a value
settled parts S bytes e (Ok m) err same settles go = absurd (both_ways false refl err)
settled parts S bytes e (Err x) err same settles go = at x (subst (λ y. Settles S parts (Err y)) (sym same) settles)
  where
    -- the claim holds whether the stage has failed for want of memory or by a fault of the bytes
    at : (y : ReadError) → Settles S parts (Err y) → ReadsTo bytes (Err y)
    at error.Memory is = tt
    -- the stage has failed by a fault, which the bytes say
    at (error.Fault fault) is = fault-says bytes fault (go fault is)

-- where the reading of the bytes stops with a fault, and the result is that fault, the bytes are read as it
pub faulted : (bytes : List ℕ) (fault : Fault) (r : Result Reading ReadError) → IsErr r → IsErrAnd r (λ x. x ≡ error.Fault fault) → ReadOf bytes (stops fault) → ReadsTo bytes r
-- the result would be a value
faulted bytes fault (Ok m) err same is = absurd (both_ways false refl err)
faulted bytes fault (Err x) err same is = subst (λ y. ReadsTo bytes (Err y)) (sym same) (fault-says bytes fault is)

-- each stage of reading gives this: the start line, the fields, the named fields, and the body
pub record Found (bytes rest first : List ℕ) (start : StartLine) (fields : List Field) (n : Names) (body : List ℕ) : Type 0 where
  pub head : List ℕ
  pub others : List (List ℕ)
  pub is_begun : IsBegun bytes head rest first others
  pub is_start : StartSays first start
  pub are_fields : FieldsOf 1 others (gives fields)
  pub are_names : NamesOf fields (gives (n.via, n.cseq))
  pub is_body : BodySays start n.cseq (n.via.1) (content_length fields) rest (gives body)
  pub stand : Stand fields n

-- where each stage gives something, the bytes are the message that is made of it
pub found-text : {bytes rest first body : List ℕ} {start : StartLine} {fields : List Field} {n : Names} → Found bytes rest first start fields n body → MessageText bytes (record { start = start; fields = fields; body = body })
found-text {bytes = bytes} {body = body} {start = start} {fields = fields} {n = n} f =
    -- the start line, the fields, the named fields and the body are what the stages give, one after another
    read-text bytes _ (begun f.is_begun (passes start f.is_start (passes fields f.are_fields (passes (n.via, n.cseq) f.are_names (passes body f.is_body refl)))))

-- a message that was found keeps where its named fields stand
pub found-keeps : {bytes rest first body : List ℕ} {start : StartLine} {fields : List Field} {n : Names} (e : SaidVia) (s : ℕ × List ℕ) → Found bytes rest first start fields n body → FirstVia (n.via.1) e → CSeqValue (n.cseq.1) s
    → (p : Parts) × KeepsRead (record { start = start; fields = fields; body = body }) p e n.from n.to n.call_id s
found-keeps {bytes = bytes} {n = n} e s f first said =
    -- `text` says that the bytes are those of the message, and `parts` are its parts
    let text = found-text f in
    let parts = has-parts bytes _ text in
    let keeps : Keeps _ parts.0 (n.via.1) n.from n.to n.call_id (n.cseq.1) = record {
      parts = record { is = parts.1; only = (λ q is. parts-one _ q parts.0 is parts.1) };
      spelled = (bytes, text);
      -- each named field stands where it was found
      via = f.stand.via;
      from = f.stand.from;
      to = f.stand.to;
      call_id = f.stand.call_id;
      cseq = f.stand.cseq;
    } in
    -- the first Via and the CSeq say what was found of them
    (
      parts.0,
      record {
        via_text = n.via.1;
        cseq_text = n.cseq.1;
        keeps = keeps;
        via = one-first (n.via.1) e parts.0.via first (keeps-via keeps);
        cseq = same-cseq (n.cseq.1) s parts.0.cseq said (keeps-cseq keeps);
      },
    )

-- the bytes are read as the message that was found
pub found-reads : {bytes rest first body : List ℕ} {start : StartLine} {fields : List Field} {n : Names} (r : Reading) → Found bytes rest first start fields n body
    → ◌≡◌ {A = Message} r.message (record { start = start; fields = fields; body = body }) → IsOnly (HasParts r.message.fields) r.parts → Reads bytes r
found-reads {bytes = bytes} r f is parts = text-reads bytes r (subst (MessageText bytes) (sym is) (found-text f)) parts.is
