-- Bytes tell a message by the definitions exactly if they are its text by the readers.
-- In the lemmas gs are fields as they are said, f is a fault, and n the message that was read.
use Rattle.std.proofs.Common.{◌≡◌, ℕ, ◌+◌, List, [], ◌∷◌, map, refl, sym, ap₂, ◌∙◌, subst}
use Rattle.sip_standard.specs.Outcome.{Outcome, gives, stops}
use Rattle.sip_standard.specs.StartLine.{StartLine}
use Rattle.sip_standard.specs.Field.{SaidField}
use Rattle.sip_standard.specs.Says.{BytesTell}
use Rattle.sip_message.specs.Field.{Field, field_of}
use Rattle.sip_message.specs.Message.{Message, TellMessage}
use Rattle.sip_message.specs.inner.MessageText.{MessageText}
use Rattle.sip_message.specs.inner.Faults.{ReadOf}
use Rattle.sip_message.proofs.lemmas.message.Faults.{read-text, text-read}
use Rattle.sip_message.proofs.lemmas.says.Alike.{Alike}
use Rattle.sip_message.proofs.lemmas.says.Bytes.{AreFields, IsTold, same-read}

-- where fields as they are kept are what lines say, they are made of what the lines say
-- fs are the fields, gs are what the lines say, and n is the number of the first one's line
fields-told : (n : ℕ) (fs : List Field) (gs : List SaidField) → AreFields n fs gs → fs ≡ map field_of gs
-- as many fields are kept as are said, each in its place
fields-told n [] [] are = refl
fields-told n [] (g ∷ gs) are = absurd are
fields-told n (f ∷ fs) [] are = absurd are
fields-told n (f ∷ fs) (g ∷ gs) ((f_is, g_is, line_is, value_is), are) =
    let first : f ≡ field_of g = λ i. record { name = f_is i; value = sym value_is i } in
    ap₂ (λ (x : Field) (xs : List Field). x ∷ xs) first (fields-told (n + 1) fs gs are)

-- bytes that are the text of a message tell it
pub text-tells : (bytes : List ℕ) (m : Message) → MessageText bytes m → TellMessage bytes m
text-tells bytes m text = let told = (same-read bytes).to (gives m) (text-read bytes m text) in at told.0 told.1 told.2
  where
    -- bytes that tell something alike tell this message, and bytes that tell a fault are no message
    at : (b : Outcome (StartLine × List SaidField × List ℕ)) → BytesTell bytes b → Alike IsTold (gives m) b → TellMessage bytes m
    -- a fault is not alike to a message
    at (stops f) tells is_told = absurd is_told
    -- the start line and the body are those of the message, and its fields are made of what the lines say
    at (gives (start, gs, body)) tells (start_is, are, body_is) =
        let same : ◌≡◌ {A = StartLine × List SaidField × List ℕ} (start, gs, body) (m.start, gs, m.body) = λ i. (sym start_is i, gs, sym body_is i) in
        (gs, subst (λ told. BytesTell bytes (gives told)) same tells, fields-told 1 m.fields gs are)

-- bytes that tell a message are its text
pub tells-text : (bytes : List ℕ) (m : Message) → TellMessage bytes m → MessageText bytes m
tells-text bytes m (gs, tells, same) = let read = (same-read bytes).back (gives (m.start, gs, m.body)) tells in at read.0 read.1 read.2
  where
    -- bytes that are read as something alike are read as this message, and bytes that stop are none
    at : (a : Outcome Message) → ReadOf bytes a → Alike IsTold a (gives (m.start, gs, m.body)) → MessageText bytes m
    -- a fault is not alike to a message
    at (stops f) read is_told = absurd is_told
    -- the start line, the fields and the body are those of the message
    at (gives n) read (start_is, are, body_is) =
        let fields_are : n.fields ≡ m.fields = fields-told 1 n.fields gs are ∙ sym same in
        let message : n ≡ m = λ i. record { start = start_is i; fields = fields_are i; body = body_is i } in
        subst (MessageText bytes) message (read-text bytes n read)
