-- What bytes say is what their one reading says.
-- In the lemmas s and t are what bytes say, or a and b with faults among them, r is their reading, and m, gs and p are a message, its fields as they are
-- said, and its parts.
-- What bytes tell (`BytesTell`) is a start line, fields and a body, or a fault; what they say (`Says`) is also what the fields say.
use Rattle.std.proofs.Common.{◌≡◌, ℕ, List, ◌∷◌, map, refl, sym, ap, ◌∙◌, subst}
use Rattle.std.specs.Prelude.{codes, bytes_eq}
use Rattle.std.specs.List.{join_with_byte}
use Prim.Native.String.{String}
use Rattle.sip_standard.specs.declared.fault.Fault.{Fault}
use Rattle.sip_message.specs.inner.Parts.{HasParts}
use Rattle.sip_message.specs.declared.name.Known.{Known}
use Rattle.sip_message.specs.declared.name.Known.TheVariants as known_name
use Rattle.sip_message.specs.Name.{name_of, is_name_of}
use Rattle.sip_message.specs.inner.Marks.{comma}
use Rattle.sip_standard.specs.StartLine.{StartLine}
use Rattle.sip_message.specs.Field.{Field, values}
use Rattle.sip_message.specs.Message.{Message}
use Rattle.sip_message.specs.inner.MessageText.{MessageText}
use Rattle.sip_message.specs.inner.Kept.{Keeps}
use Rattle.sip_standard.specs.Outcome.{Outcome, gives, stops, passes, stopped}
use Rattle.sip_message.specs.inner.Faults.{ReadOf}
use Rattle.sip_message.specs.Reading.{Reading, Parts}
use Rattle.sip_message.specs.Reads.{Reads}
use Rattle.sip_standard.specs.Field.{full_name, SaidField, said_values}
use Rattle.sip_standard.specs.Says.{Said, ViasTell, IsFirstOf, FieldsTell, BytesTell, Says}
use Rattle.sip_message.specs.SaidOf.{said_of}
use Rattle.sip_standard.specs.Case.{folded}
use Rattle.sip_message.proofs.lemmas.asked.Parts.{found-values}
use Rattle.sip_message.proofs.lemmas.asked.OneWay.{parts-one}
use Rattle.sip_message.proofs.lemmas.message.Outcome.{no_value, given, fault_is}
use Rattle.sip_message.proofs.lemmas.message.Faults.{read-text, text-read, one-read}
use Rattle.sip_message.proofs.lemmas.message.Views.{same_text}
use Rattle.sip_message.proofs.lemmas.says.Alike.{Alike}
use Rattle.sip_message.proofs.lemmas.says.Names.{named-via, named-from, named-to, named-call-id, named-cseq, named-route}
use Rattle.sip_message.proofs.lemmas.says.Bytes.{AreFields, IsTold, all-found, same-read}
use Rattle.sip_message.proofs.lemmas.says.Told.{text-tells, tells-text}

-- the values of a name in fields as they are kept are its values in the fields as they are said
-- k is the name, with `key` as its text; fs are the fields as they are kept, and gs those as they are said
values-said : (k : Known) (key : String) → ((token : List ℕ) → is_name_of k (name_of token) ≡ bytes_eq (full_name (folded token)) (codes key)) → (fs : List Field) (gs : List SaidField) → AreFields 1 fs gs → values k fs ≡ said_values key gs
-- both lists are the values that are found, without the numbers of their lines
values-said k key same fs gs are = found-values 1 k fs ∙ ap (map (λ found. found.1)) (all-found k key same 1 fs gs are)

-- the parts that fields as they are kept have are what the fields as they are said tell
parts-tell : (m : Message) (start : StartLine) (gs : List SaidField) (body : List ℕ) (p : Parts) → IsTold m (start, gs, body) → HasParts m.fields p → FieldsTell start gs (said_of (record { message = m; parts = p }))
parts-tell m start gs body p (start_is, are, body_is) parts = record {
  start_is = start_is;
  -- each named value that is kept is the one that is said
  vias = subst (λ vs. ViasTell vs (p.via ∷ p.others)) (values-said known_name.Via "via" named-via m.fields gs are) parts.vias;
  from = subst (λ vs. IsFirstOf vs p.from) (values-said known_name.From "from" named-from m.fields gs are) parts.from;
  to = subst (λ vs. IsFirstOf vs p.to) (values-said known_name.To "to" named-to m.fields gs are) parts.to;
  call_id = subst (λ vs. IsFirstOf vs p.call_id) (values-said known_name.CallId "call-id" named-call-id m.fields gs are) parts.call_id;
  cseq = (parts.cseq.0, subst (λ vs. IsFirstOf vs parts.cseq.0) (values-said known_name.CSeq "cseq" named-cseq m.fields gs are) parts.cseq.1, parts.cseq.2);
  route_is = ap (join_with_byte comma) (values-said known_name.Route "route" named-route m.fields gs are);
}

-- what is told of the named fields, as the parts of a message
abbrev parts_of : Said → Parts
parts_of s = record { via = s.via; others = s.others; from = s.from; to = s.to; call_id = s.call_id; cseq = s.cseq }

-- what the fields as they are said tell are the parts of the fields as they are kept
-- m is the message; gs are the fields as they are said, and s is what they tell
tell-parts : (m : Message) (start : StartLine) (gs : List SaidField) (body : List ℕ) (s : Said) → IsTold m (start, gs, body) → FieldsTell start gs s
    → HasParts m.fields (parts_of s) × (s ≡ said_of (record { message = m; parts = parts_of s }))
tell-parts m start gs body s (start_is, are, body_is) tells =
    let start_same : s.start ≡ m.start = tells.start_is ∙ sym start_is in
    let route : s.route ≡ join_with_byte comma (values known_name.Route m.fields) = tells.route_is ∙ ap (join_with_byte comma) (sym (values-said known_name.Route "route" named-route m.fields gs are)) in (
      -- each named value that is said is the one that is kept
      record {
        vias = subst (λ vs. ViasTell vs (s.via ∷ s.others)) (sym (values-said known_name.Via "via" named-via m.fields gs are)) tells.vias;
        from = subst (λ vs. IsFirstOf vs s.from) (sym (values-said known_name.From "from" named-from m.fields gs are)) tells.from;
        to = subst (λ vs. IsFirstOf vs s.to) (sym (values-said known_name.To "to" named-to m.fields gs are)) tells.to;
        call_id = subst (λ vs. IsFirstOf vs s.call_id) (sym (values-said known_name.CallId "call-id" named-call-id m.fields gs are)) tells.call_id;
        cseq = (tells.cseq.0, subst (λ vs. IsFirstOf vs tells.cseq.0) (sym (values-said known_name.CSeq "cseq" named-cseq m.fields gs are)) tells.cseq.1, tells.cseq.2);
      },
      (λ i. record { start = start_same i; via = s.via; others = s.others; from = s.from; to = s.to; call_id = s.call_id; cseq = s.cseq; route = route i }),
    )

-- where bytes are the text of a message, they say what the message says
pub text-says : (bytes : List ℕ) (r : Reading) → MessageText bytes r.message → HasParts r.message.fields r.parts → Says bytes (gives (said_of r))
text-says bytes r text parts = let told = (same-read bytes).to (gives r.message) (text-read bytes r.message text) in at told.0 told.1 told.2
  where
    -- bytes that tell a message say it, and bytes that tell a fault do not tell this message
    at : (b : Outcome (StartLine × List SaidField × List ℕ)) → BytesTell bytes b → Alike IsTold (gives r.message) b → Says bytes (gives (said_of r))
    -- a message is told: its start line, fields and body are y
    at (gives y) tells is_told = passes y tells (said_of r, parts-tell r.message y.0 y.1 y.2 r.parts is_told parts, refl)
    -- the reading of the message is no fault
    at (stops f) tells is_told = absurd is_told

-- where bytes are the text of a message, and its fields have its parts, the bytes are read as it
pub text-reads : (bytes : List ℕ) (r : Reading) → MessageText bytes r.message → HasParts r.message.fields r.parts → Reads bytes r
text-reads bytes r text parts = record { says = text-says bytes r text parts; tells = text-tells bytes r.message text }

-- what is kept of a message is read of some bytes
-- m is the message and p its parts; v, f, t, i and c are the values of its first Via, From, To, Call-ID and CSeq
pub keeps-reads : {m : Message} {p : Parts} {v f t i c : List ℕ} → Keeps m p v f t i c → (bytes : List ℕ) × Reads bytes (record { message = m; parts = p })
keeps-reads {m = m} {p = p} k = (k.spelled.0, text-reads k.spelled.0 (record { message = m; parts = p }) k.spelled.1 k.parts.is)

-- bytes that say something are the text of a message, whose fields have the parts that are said
says-parts : (bytes : List ℕ) (s : Said) → Says bytes (gives s) → (m : Message) × MessageText bytes m × HasParts m.fields (parts_of s) × (s ≡ said_of (record { message = m; parts = parts_of s }))
-- bytes that stop at a fault give no value
says-parts bytes s (stopped f tells is) = absurd (no_value is)
says-parts bytes s (passes y tells (t, fields, is)) = let read = (same-read bytes).back (gives y) tells in at read.0 read.1 read.2
  where
    -- bytes that are read as a message are its text, and bytes that stop with a fault say nothing
    at : (a : Outcome Message) → ReadOf bytes a → Alike IsTold a (gives y) → (m : Message) × MessageText bytes m × HasParts m.fields (parts_of s) × (s ≡ said_of (record { message = m; parts = parts_of s }))
    -- a fault is not alike to a value
    at (stops f) read is_told = absurd is_told
    -- what was said are the parts of the message
    at (gives m) read is_told =
        let told = tell-parts m y.0 y.1 y.2 s is_told (subst (FieldsTell y.0 y.1) (sym (given is)) fields) in
        (m, read-text bytes m read, told.0, told.1)

-- bytes that say something have a reading that says it
pub says-reads : (bytes : List ℕ) (s : Said) → Says bytes (gives s) → (r : Reading) × Reads bytes r × (s ≡ said_of r)
says-reads bytes s says =
    let (m, text, parts, same) = says-parts bytes s says in
    (record { message = m; parts = parts_of s }, text-reads bytes (record { message = m; parts = parts_of s }) text parts, same)

-- the fields of a message that was read have its parts
pub reads-parts : (bytes : List ℕ) (r : Reading) → Reads bytes r → HasParts r.message.fields r.parts
reads-parts bytes r reads =
    -- the bytes are the text of one message
    let (m, text, parts, same) = says-parts bytes (said_of r) reads.says in
    subst (λ n. HasParts n.fields r.parts) (same_text bytes m r.message text (tells-text bytes r.message reads.tells)) parts

-- bytes are read in one way
pub same_reading : (bytes : List ℕ) (r s : Reading) → Reads bytes r → Reads bytes s → r ≡ s
same_reading bytes r s one other =
    -- the message is the same, and so are the parts that its fields have
    let message = same_text bytes r.message s.message (tells-text bytes r.message one.tells) (tells-text bytes s.message other.tells) in
    let parts = parts-one s.message.fields r.parts s.parts (subst (λ m. HasParts m.fields r.parts) message (reads-parts bytes r one)) (reads-parts bytes s other) in
    ap (λ m. record { message = m; parts = r.parts }) message ∙ ap (λ p. record { message = s.message; parts = p }) parts

-- the fault with which the reading of bytes stops is the one that they say
pub fault-says : (bytes : List ℕ) (f : Fault) → ReadOf bytes (stops f) → Says bytes (stops f)
fault-says bytes f read = let told = (same-read bytes).to (stops f) read in at told.0 told.1 told.2
  where
    -- bytes that tell the fault say it, and bytes that tell a message do not stop
    at : (b : Outcome (StartLine × List SaidField × List ℕ)) → BytesTell bytes b → Alike IsTold (stops f) b → Says bytes (stops f)
    -- a message is not alike to a fault
    at (gives y) tells is_told = absurd is_told
    -- the faults are alike, which is that they are the same
    at (stops g) tells same = stopped g tells (ap (λ z. stops z) same)

-- the fault that bytes say is the one with which their reading stops
pub says-fault : (bytes : List ℕ) (f : Fault) → Says bytes (stops f) → ReadOf bytes (stops f)
-- bytes that give a value stop at no fault
says-fault bytes f (passes y tells (t, fields, is)) = absurd (no_value (sym is))
says-fault bytes f (stopped g tells is) = let read = (same-read bytes).back (stops g) tells in at read.0 read.1 read.2
  where
    -- bytes whose reading stops have this fault, and bytes that are read as a message say none
    at : (a : Outcome Message) → ReadOf bytes a → Alike IsTold a (stops g) → ReadOf bytes (stops f)
    -- a message is not alike to a fault
    at (gives m) read is_told = absurd is_told
    -- the faults are alike, which is that they are the same
    at (stops h) read same = subst (λ z. ReadOf bytes (stops z)) (same ∙ sym (fault_is is)) read

-- bytes that are read as a message say what that message says
pub said-is : (bytes : List ℕ) (r : Reading) (s : Said) → Reads bytes r → Says bytes (gives s) → s ≡ said_of r
said-is bytes r s reads says =
    -- `other` is a reading that says s, and bytes have one reading
    let other = says-reads bytes s says in
    other.2 ∙ ap said_of (same_reading bytes other.0 r other.1 reads)

-- what bytes say is one thing
pub says-one : (bytes : List ℕ) (a b : Outcome Said) → Says bytes a → Says bytes b → a ≡ b
-- both are messages: the bytes have one reading, and each of the two is what it says
says-one bytes (gives s) (gives t) one other =
    let read = says-reads bytes s one in
    ap (λ x. gives x) (read.2 ∙ sym (said-is bytes read.0 t read.1 other))
-- bytes that say a message have no fault
says-one bytes (gives s) (stops f) one other =
    let read = says-reads bytes s one in
    absurd (no_value (one-read bytes (gives read.0.message) (stops f) (text-read bytes read.0.message (tells-text bytes read.0.message read.1.tells)) (says-fault bytes f other)))
says-one bytes (stops f) (gives s) one other =
    let read = says-reads bytes s other in
    absurd (no_value (one-read bytes (gives read.0.message) (stops f) (text-read bytes read.0.message (tells-text bytes read.0.message read.1.tells)) (says-fault bytes f one)))
-- both are faults, and the first fault is one
says-one bytes (stops f) (stops g) one other =
    ap (λ x. stops x) (fault_is (one-read bytes (stops f) (stops g) (says-fault bytes f one) (says-fault bytes g other)))

-- bytes say at most one message
pub said-one : (bytes : List ℕ) (s t : Said) → Says bytes (gives s) → Says bytes (gives t) → s ≡ t
said-one bytes s t one other = given (says-one bytes (gives s) (gives t) one other)

-- bytes that say a message say no fault
pub says-no_fault : (bytes : List ℕ) (s : Said) (f : Fault) → Says bytes (gives s) → Says bytes (stops f) → ⊥
says-no_fault bytes s f one other = no_value (says-one bytes (gives s) (stops f) one other)
